-- Labels in numbers.
use Rattle.std.specs.Prelude.{nat_lt, [], ◌∷◌, Option, Some, None, if◌then◌else◌}
use Rattle.mls_labels.specs.Label.{Label}
use Rattle.mls_labels.specs.CategoryBits.{categories_in, words_in}
use Rattle.mls_labels.specs.declared.limits.TheConstants.{MAX_LEVELS}
use Rattle.mls_c.specs.declared.label.LabelNumbers.{LabelNumbers}

-- The label of a level and of four words of categories, where the level is within the limit of labels: category n has
-- bit n % 64 of word n / 64. (own)
abbrev pub label_of : LabelNumbers → Option Label
label_of l = if nat_lt l.level MAX_LEVELS
    then Some (record { level = l.level; categories = categories_in l.categories }) else None

-- A label in numbers. (own)
abbrev pub numbers_of_label : Label → LabelNumbers
numbers_of_label l = record { level = l.level; categories = words_in l.categories }

-- The numbers that stand where an action has no label: level 0 without categories. (own)
abbrev pub no_label : LabelNumbers
no_label = record { level = 0; categories = 0 ∷ 0 ∷ 0 ∷ 0 ∷ [] }
