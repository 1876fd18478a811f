-- What two schemes write of the same labels.
use Rattle.std.specs.Prelude.{◌≡◌, ℕ, IsTrue, List, [], ◌∷◌, Option, Some, None}
use Rattle.std.specs.FinSet as set
use Rattle.mls_labels.specs.Label.{Label, has_label}
use Rattle.mls_labels.specs.LabelText.{written}
use Rattle.mls_labels.specs.Scheme.{Scheme, bounds_of}

-- The label of a level alone. (own)
abbrev pub level_alone : ℕ → Label
level_alone n = record { level = n; categories = set.empty }

-- The label of the lowest level and one category. (own)
abbrev pub lowest_with : ℕ → Label
lowest_with n = record { level = 0; categories = set.insert set.empty n }

-- Where the first scheme has a label, both write the same of it. (own)
abbrev pub IsWrittenAlike : Scheme → Scheme → Label → Type 0
IsWrittenAlike a b label = IsTrue (has_label (bounds_of a) label) → written b label ≡ written a label

-- A name, where there is one. (own)
abbrev pub name_where : Option (List ℕ) → List (List ℕ)
name_where None = []
name_where (Some name) = name ∷ []
