-- The two starts of a comparison, and their two schemes.
use Rattle.std.specs.Prelude.{ℕ, Bool, true, false, List, [], ◌∷◌, Option, Some, None, codes, filter, if◌then◌else◌}
use Rattle.mls_labels.specs.LabelText.{words_after}
use Rattle.mls_lines.specs.Names.{Names}
use Rattle.mls_differences.specs.Counterparts.{is_among}
use Rattle.mls_differences.specs.declared.side.Area.{Area}
use Rattle.mls_differences.specs.declared.side.Area.TheVariants as area
use Rattle.mls_differences.specs.declared.side.Side.{Side}
use Rattle.mls_differences.specs.declared.side.Side.TheVariants.{First, Second}

-- A row where something isn't so, nothing where it is. (own)
abbrev pub row_unless : {R : Type 0} → Bool → R → List R
row_unless so row = if so then [] else row ∷ []

-- The one of two that belongs to a start. (own)
abbrev pub on_side : {X : Type 0} → X → X → Side → X
on_side first second First = first
on_side first second Second = second

-- The word for a start. (own)
abbrev pub side_word : Side → List ℕ
side_word First = codes "first"
side_word Second = codes "second"

-- Which of two starts alone has something, by whether each of them has it. (own)
abbrev pub alone : Bool → Bool → Option Side
alone true true = None
alone true false = Some First
alone false true = Some Second
alone false false = None

-- The word for a scheme. (own)
abbrev pub area_word : Area → List ℕ
area_word area.Security = codes "security"
area_word area.Integrity = codes "integrity"

-- The levels of one of the schemes of a start. (own)
abbrev pub levels_of : Names → Area → List (List ℕ)
levels_of names area.Security = names.security.levels
levels_of names area.Integrity = names.integrity.levels

-- The categories of one of the schemes of a start. (own)
abbrev pub categories_of : Names → Area → List (List ℕ)
categories_of names area.Security = names.security.categories
categories_of names area.Integrity = names.integrity.categories

-- Of some names those that are among others, in their order. (own)
abbrev pub common : List (List ℕ) → List (List ℕ) → List (List ℕ)
common names others = filter (is_among others) names

-- What is written of them: a space before the first, commas between them. (own)
abbrev pub common_text : List (List ℕ) → List (List ℕ) → List ℕ
common_text names others = words_after 32 (common names others)
