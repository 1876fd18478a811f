-- What the rules that change levels look at, and the states that they make.
use Rattle.std.specs.Prelude.{ℕ, Bool, true, not, ◌&&◌, ◌||◌, ◌==◌, Option, Some, None}
use Rattle.std.specs.List.{list_all}
use Rattle.std.specs.FinMap as map
use Rattle.mls_labels.specs.Label.{Label}
use Rattle.mls_facts.specs.Each.{each}
use Rattle.mls_tables.specs.Triples.{Triple}
use Rattle.mls_tree.specs.Tree.{children}
use Rattle.mls_state.specs.State.{State, is_above}

-- Whether each access of a subject passes the test. (own)
abbrev pub each_of_subject : State → ℕ → (Triple → Bool) → Bool
each_of_subject v s passes = each v.accesses (λ t. not (t.0 == s) || passes t)

-- Whether each access to an object passes the test. (own)
abbrev pub each_of_object : State → ℕ → (Triple → Bool) → Bool
each_of_object v o passes = each v.accesses (λ t. not (t.1 == o) || passes t)

-- Whether each child of an object passes the test. (own)
abbrev pub each_child : State → ℕ → (ℕ → Bool) → Bool
each_child v o passes = list_all passes (children v.parent o)

-- Whether a label dominates the parent's, where there is a parent. (MTR-2997, compatibility)
abbrev pub is_above_parent : State → Label → Option ℕ → Bool
is_above_parent v l None = true
is_above_parent v l (Some p) = is_above (Some l) (map.get v.object_label p)

-- Whether a label fits the place of an object: it dominates the parent's label, and each child's label dominates it.
-- (MTR-2997, compatibility)
abbrev pub label_fits : State → ℕ → Label → Bool
label_fits v o l = is_above_parent v l (map.get v.parent o)
    && each_child v o (λ c. is_above (map.get v.object_label c) (Some l))
