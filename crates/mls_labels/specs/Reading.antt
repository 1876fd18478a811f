-- How a label text is read, step by step. What it means is said in LabelText.
use Rattle.std.specs.Prelude.{ℕ, suc, nat_eq, List, [], ◌∷◌, Option, None, Some, option_map, Result, Ok, Err}
use Rattle.std.specs.Prelude.{if◌then◌else◌}
use Rattle.std.specs.Ordering.{nat_cmp}
use Rattle.std.specs.FinSet as set
use Rattle.std.specs.List.{slice_split}
use Rattle.std.specs.Str.{bytes_eq}
use Rattle.mls_labels.specs.Label.{Label}
use Rattle.mls_labels.specs.Names.{is_name, is_name_byte}
use Rattle.mls_labels.specs.Scheme.{Scheme}
use Rattle.mls_labels.specs.declared.label_fault.LabelFault.{LabelFault}
use Rattle.mls_labels.specs.declared.label_fault.LabelFault.TheVariants.{BadForm, UnknownLevel, UnknownCategory}
use Rattle.mls_labels.specs.declared.label_fault.LabelFault.TheVariants.{RepeatedCategory}

-- The first place of a name, counted from 0. (own)
unfoldable pub place_of : List (List ℕ) → List ℕ → Option ℕ
place_of [] name = None
place_of (other ∷ others) name = if bytes_eq name other then Some 0 else option_map (λ n. suc n) (place_of others name)

-- What has been read of the categories, with the one in this place. (own)
abbrev pub with_one : Result (set.FinSet nat_cmp) LabelFault → Option ℕ → Result (set.FinSet nat_cmp) LabelFault
with_one found None = Err UnknownCategory
with_one (Err fault) (Some n) = Err fault
with_one (Ok categories) (Some n) = if set.contains categories n then Err RepeatedCategory
    else Ok (set.insert categories n)

-- What has been read of the categories, with those that the words name. (own)
unfoldable pub with_words : List (List ℕ) → Result (set.FinSet nat_cmp) LabelFault → List (List ℕ)
    → Result (set.FinSet nat_cmp) LabelFault
with_words names found [] = found
with_words names found (word ∷ words) = if is_name word
    then with_words names (with_one found (place_of names word)) words else Err BadForm

-- The words between commas. (own)
abbrev pub words_of : List ℕ → List (List ℕ)
words_of text = slice_split (λ b. nat_eq b 44) text

-- The categories of what stands after the level. (own)
abbrev pub tail_at : List (List ℕ) → List ℕ → Result (set.FinSet nat_cmp) LabelFault
tail_at names [] = Ok set.empty
tail_at names (b ∷ text) = if nat_eq b 58 then with_words names (Ok set.empty) (words_of text) else Err BadForm

-- The label of a level in this place with these categories. (own)
abbrev pub label_of : Option ℕ → set.FinSet nat_cmp → Result Label LabelFault
label_of None categories = Err UnknownLevel
label_of (Some n) categories = Ok (record { level = n; categories = categories })

-- The first fault, in the order of the faults, of a level in this place and what follows it. (own)
abbrev pub first_of : Option ℕ → LabelFault → LabelFault
first_of place BadForm = BadForm
first_of None UnknownLevel = UnknownLevel
first_of None UnknownCategory = UnknownLevel
first_of None RepeatedCategory = UnknownLevel
first_of (Some n) UnknownLevel = UnknownLevel
first_of (Some n) UnknownCategory = UnknownCategory
first_of (Some n) RepeatedCategory = RepeatedCategory

-- A level's place and the categories, as a label. (own)
abbrev pub label_with : Option ℕ → Result (set.FinSet nat_cmp) LabelFault → Result Label LabelFault
label_with place (Ok categories) = label_of place categories
label_with place (Err fault) = Err (first_of place fault)

-- The bytes at the front of a text that may stand in a name. (own)
unfoldable pub front_of : List ℕ → List ℕ
front_of [] = []
front_of (b ∷ text) = if is_name_byte b then b ∷ front_of text else []

-- What stands after those bytes. (own)
unfoldable pub rest_of : List ℕ → List ℕ
rest_of [] = []
rest_of (b ∷ text) = if is_name_byte b then rest_of text else b ∷ text

-- The label of a text, or its fault. (own)
abbrev pub label_at : Scheme → List ℕ → Result Label LabelFault
label_at s text = if is_name (front_of text)
    then label_with (place_of s.levels (front_of text)) (tail_at s.categories (rest_of text)) else Err BadForm
