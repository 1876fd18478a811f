-- The names of objects that are numbered anew.
use Rattle.std.specs.Prelude.{◌≡◌, ℕ, ◌<◌, ◌≤◌, Bool, true, false, ◌||◌, nat_lt, List, ◌∷◌, length, Option, Some, None}
use Rattle.std.specs.Prelude.{is_some, slice_get}
use Rattle.std.specs.Fmt.{decimal}
use Rattle.mls_labels.specs.Reading.{place_of}
use Rattle.mls_lines.specs.Names.{Names}

-- The name of a number: `o` and the number. (own)
abbrev pub numbered : ℕ → List ℕ
numbered m = 111 ∷ decimal m

-- There is a place, and it is less than another. (own)
abbrev pub comes_before : ℕ → Option ℕ → Bool
comes_before k None = false
comes_before k (Some j) = nat_lt j k

-- A name is taken for the object at a place: the old names have it, or the new ones have it at a lesser place. (own)
abbrev pub is_taken : List (List ℕ) → List (List ℕ) → ℕ → List ℕ → Bool
is_taken old new k name = is_some (place_of old name) || comes_before k (place_of new name)

-- A name is the first of the names of numbers, from an object's number on, that isn't taken. (own)
pub record IsFirstFree (old new : List (List ℕ)) (k o : ℕ) (name : List ℕ) : Type 0 where
  pub number : ℕ
  pub least : o ≤ number
  pub named : name ≡ numbered number
  pub free : is_taken old new k (numbered number) ≡ false
  pub taken : (m : ℕ) → o ≤ m → m < number → is_taken old new k (numbered m) ≡ true

-- A name is the one that an object is to have: its old one, or where it had none the first that is free. (own)
abbrev pub IsNameOf : List (List ℕ) → List (List ℕ) → ℕ → ℕ → Option (List ℕ) → List ℕ → Type 0
IsNameOf old new k o (Some given) name = name ≡ given
IsNameOf old new k o None name = IsFirstFree old new k o name

-- The object at a place of an order has the name there that it is to have. (own)
abbrev pub IsNamed : List (List ℕ) → List (List ℕ) → ℕ → ℕ → Type 0
IsNamed old new k o =
    (name : List ℕ) × (slice_get new k ≡ Some name) × IsNameOf old new k o (slice_get old o) name

-- Names are others with the objects of an order: subjects and schemes are those of the others, and each object has the
-- name that it is to have. (own)
pub record AreRenamed (old new : Names) (order : List ℕ) : Type 0 where
  pub subjects : new.subjects ≡ old.subjects
  pub security : new.security ≡ old.security
  pub integrity : new.integrity ≡ old.integrity
  pub many : length new.objects ≡ length order
  pub objects : (k o : ℕ) → slice_get order k ≡ Some o → IsNamed old.objects new.objects k o
