-- Flows downwards that the permissions of trusted subjects allow.
use Rattle.std.specs.Prelude.{ℕ, Bool, not, ◌||◌, Option, Some, None, List, [], ◌∷◌, length, map, filter}
use Rattle.std.specs.Prelude.{option_to_list, if◌then◌else◌}
use Rattle.std.specs.FinSet as set
use Rattle.std.specs.FinMap as table
use Rattle.std.specs.List.{flat_map}
use Rattle.mls_labels.specs.Label.{Label}
use Rattle.mls_tables.specs.declared.mode.Mode.{Mode}
use Rattle.mls_tables.specs.declared.mode.Mode.TheVariants.{Read, Append, Write}
use Rattle.mls_state.specs.State.{State, is_above}
use Rattle.mls_review.specs.Dead.{is_live}
use Rattle.mls_review.specs.Findings.{subjects, objects}
use Rattle.mls_review.specs.declared.downflow.Downflow.{Downflow}

-- Whether a subject has a permission on an object, in a mode or to write, that isn't dead. (own)
abbrev pub has_live : State → ℕ → Mode → ℕ → Bool
has_live v s x o = is_live v (s, o, x) || is_live v (s, o, Write)

-- Whether a subject may observe an object by a permission that isn't dead. (MTR-2997, access attributes)
abbrev pub may_observe : State → ℕ → ℕ → Bool
may_observe v s o = has_live v s Read o

-- Whether a subject may alter an object by a permission that isn't dead. (MTR-2997, access attributes)
abbrev pub may_alter : State → ℕ → ℕ → Bool
may_alter v s o = has_live v s Append o

-- Whether an object's label doesn't dominate a label that something came from. (own)
abbrev pub is_not_above : State → Option Label → ℕ → Bool
is_not_above v from b = not (is_above (table.get v.object_label b) from)

-- The pairs of an object and those of some others whose labels don't dominate its own. (own)
abbrev pub pairs_from : State → List ℕ → ℕ → List (ℕ × ℕ)
pairs_from v altered a = map (λ b. (a, b)) (filter (is_not_above v (table.get v.object_label a)) altered)

-- The pairs of two objects of which a subject may observe the first and alter the second, where the second's label
-- doesn't dominate the first's: by the first and then by the second. (own)
abbrev pub pairs : State → ℕ → List (ℕ × ℕ)
pairs v s = flat_map (pairs_from v (filter (may_alter v s) (objects v))) (filter (may_observe v s) (objects v))

-- How many pairs a subject has, and the first of them, where it has some. (own)
abbrev pub flow_of_pairs : ℕ → List (ℕ × ℕ) → Option Downflow
flow_of_pairs s [] = None
flow_of_pairs s (p ∷ ps) = Some (record { subject = s; pairs = length (p ∷ ps); from = p.0; to = p.1 })

-- The flow downwards that a subject's permissions allow, where it is trusted and has such pairs. (own)
abbrev pub flow_of : State → ℕ → Option Downflow
flow_of v s = if set.contains v.trusted s then flow_of_pairs s (pairs v s) else None

-- That flow as a list. (own)
abbrev pub flows_of : State → ℕ → List Downflow
flows_of v s = option_to_list (flow_of v s)

-- The flows downwards of trusted subjects, by number. (own)
abbrev pub downflows : State → List Downflow
downflows v = flat_map (flows_of v) (subjects v)

-- How many of some objects have a label that doesn't dominate this one. (own)
abbrev pub count_not_above : State → List ℕ → Label → ℕ
count_not_above v altered l = length (filter (is_not_above v (Some l)) altered)
