-- The security labels of a state, each once.
use Rattle.std.specs.Prelude.{ℕ, not, List, [], ◌∷◌, ◌++◌, filter, option_to_list, if◌then◌else◌}
use Rattle.std.specs.FinMap as map
use Rattle.std.specs.List.{list_any, flat_map, range_with_len}
use Rattle.mls_labels.specs.Label.{Label}
use Rattle.mls_labels.specs.Same.{same_label}
use Rattle.mls_tables.specs.declared.limits.TheConstants.{MAX_SUBJECTS, MAX_OBJECTS}
use Rattle.mls_state.specs.State.{State}

-- The numbers below one, ascending. (own)
unfoldable pub below : ℕ → List ℕ
below n = range_with_len 0 n

-- The labels of a list, each once, in the order in which they first stand there. (own)
unfoldable pub firsts : List Label → List Label
firsts [] = []
firsts (l ∷ ls) = l ∷ filter (λ m. not (same_label l m)) (firsts ls)

-- A list of labels with one more, where it isn't there yet. (own)
abbrev pub with_one : List Label → Label → List Label
with_one ls l = if list_any (λ m. same_label m l) ls then ls else ls ++ l ∷ []

-- The maximum and the current label of a subject; none where it isn't known. (own)
abbrev pub labels_of_subject : State → ℕ → List Label
labels_of_subject v s = option_to_list (map.get v.maximum s) ++ option_to_list (map.get v.current s)

-- The label of an object; none where it isn't active. (own)
abbrev pub labels_of_object : State → ℕ → List Label
labels_of_object v o = option_to_list (map.get v.object_label o)

-- The security labels of subjects, by number, of each the maximum and then the current one. (own)
abbrev pub subject_labels : State → List Label
subject_labels v = flat_map (labels_of_subject v) (below MAX_SUBJECTS)

-- The security labels of objects, by number. (own)
abbrev pub object_labels : State → List Label
object_labels v = flat_map (labels_of_object v) (below MAX_OBJECTS)

-- The security labels that a state has, each once: of subjects and then of objects, in the order in which they first
-- stand. (own)
abbrev pub distinct : State → List Label
distinct v = firsts (subject_labels v ++ object_labels v)
