-- Places in a start file, and what is written of them.
use Rattle.std.specs.Prelude.{ℕ, Bool, not, ◌&&◌, ◌==◌, ◌+◌, ◌/◌, ◌%◌, nat_lt, List, [], ◌∷◌, ◌++◌, codes}
use Rattle.std.specs.Prelude.{Option, Some, None, string_bytes}
use Rattle.std.specs.Prelude.{if◌then◌else◌}
use Rattle.std.specs.Fmt.{decimal}
use Rattle.std.specs.List.{flat_map}
use Rattle.std.proofs.Common.{Bor}
use Rattle.mls_start_faults.specs.declared.place.Part.{Part}
use Rattle.mls_start_faults.specs.declared.place.Part.TheVariants.{File, Scheme, Row}
use Rattle.mls_start_faults.specs.declared.place.Place.{Place}
use Rattle.mls_start_faults.specs.declared.place.Spot.{Spot}
use Rattle.mls_start_faults.specs.declared.place_row.PlaceRow.{PlaceRow}

-- A step of a JSON pointer: a member's key, or an item's number in a list. (own)
pub data Step : Type 0 where
  key : List ℕ → Step
  number : ℕ → Step

-- A place, by the steps to it, and the words for what is wrong there. (own)
abbrev pub Wrong : Type 0
Wrong = List Step × List ℕ

-- A byte stands for itself in a pointer: printable ASCII, no space and no backslash. (own)
abbrev pub is_plain : ℕ → Bool
is_plain b = nat_lt 32 b && (nat_lt b 127 && not (b == 92))

-- A hexadecimal digit. (own)
abbrev pub hex_digit : ℕ → ℕ
hex_digit n = if nat_lt n 10 then 48 + n else 87 + n

-- A byte by its two hexadecimal digits, after a backslash and an x. (own)
abbrev pub hex_text : ℕ → List ℕ
hex_text b = 92 ∷ 120 ∷ hex_digit (b / 16) ∷ hex_digit (b % 16) ∷ []

-- A byte of a key: the tilde and the slash as RFC 6901 has them, any other that isn't plain by number. (own)
abbrev pub byte_text : ℕ → List ℕ
byte_text b =
    if b == 126 then codes "~0" else if b == 47 then codes "~1" else if is_plain b then b ∷ [] else hex_text b

-- A step, after a slash. (own)
abbrev pub step_text : Step → List ℕ
step_text (key bytes) = codes "/" ++ flat_map byte_text bytes
step_text (number n) = codes "/" ++ decimal n

-- A JSON pointer; a slash alone where it has no steps. (own)
abbrev pub pointer : List Step → List ℕ
pointer [] = codes "/"
pointer (step ∷ steps) = step_text step ++ flat_map step_text steps

-- What is told of a place: the text of the pointer to it, and the words for what is wrong there. (own)
abbrev pub Located : Type 0
Located = List ℕ × List ℕ

-- A place, as it is told. (own)
abbrev pub located : Wrong → List Located
located w = (pointer w.0, w.1) ∷ []

-- A member of the file. (own)
abbrev pub on_list : List ℕ → List ℕ → Wrong
on_list list words = (key list ∷ [], words)

-- An item of a list of the file. (own)
abbrev pub on_row : List ℕ → ℕ → List ℕ → Wrong
on_row list n words = (key list ∷ number n ∷ [], words)

-- A member of an object in a list of the file. (own)
abbrev pub on_member : List ℕ → ℕ → List ℕ → List ℕ → Wrong
on_member list n member words = (key list ∷ number n ∷ key member ∷ [], words)

-- An item of a list that is a member of an object in a list of the file. (own)
abbrev pub on_item : List ℕ → ℕ → List ℕ → ℕ → List ℕ → Wrong
on_item list n member k words = (key list ∷ number n ∷ key member ∷ number k ∷ [], words)

-- A list of a scheme. (own)
abbrev pub on_names : List ℕ → List ℕ → List ℕ → Wrong
on_names scheme list words = (key scheme ∷ key list ∷ [], words)

-- A name in a list of a scheme. (own)
abbrev pub on_name : List ℕ → List ℕ → ℕ → List ℕ → Wrong
on_name scheme list k words = (key scheme ∷ key list ∷ number k ∷ [], words)

-- The step to a member, where there is one. (own)
abbrev pub key_steps : Option (Bor (List ℕ)) → List Step
key_steps None = []
key_steps (Some text) = key text.now ∷ []

-- The step to an item, where there is one. (own)
abbrev pub number_steps : Option ℕ → List Step
number_steps None = []
number_steps (Some n) = number n ∷ []

-- What is wrong within a value, as contracts see it. (own)
abbrev pub spot_view : Spot → Wrong
spot_view s = (key_steps s.member ++ number_steps s.item, s.words.now)

-- A place of a file, as contracts see it. (own)
abbrev pub place_view : Place → Wrong
place_view p = (key p.list.now ∷ number_steps p.row ++ (spot_view p.spot).0, p.spot.words.now)

-- What is told of a place, as contracts see it. (own)
abbrev pub located_view : PlaceRow → Located
located_view row = (string_bytes row.pointer, row.words.now)

-- The steps to a part of a file that has members. (own)
abbrev pub part_steps : Part → List Step
part_steps File = []
part_steps (Scheme scheme) = key scheme.now ∷ []
part_steps (Row list n) = key list.now ∷ number n ∷ []
