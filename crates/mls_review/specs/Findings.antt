-- What is suspicious in a state: permissions, objects and subjects of no use.
use Rattle.std.specs.Prelude.{ℕ, IsTrue, Bool, not, ◌||◌, Option, Some, None, List, [], ◌∷◌, ◌++◌, filter}
use Rattle.std.specs.Prelude.{if◌then◌else◌}
use Rattle.std.specs.FinSet as set
use Rattle.std.specs.List.{list_any, flat_map}
use Rattle.mls_tables.specs.Rows.{listed}
use Rattle.mls_tables.specs.declared.limits.TheConstants.{MAX_SUBJECTS, MAX_OBJECTS}
use Rattle.mls_tables.specs.declared.mode.Mode.{Mode}
use Rattle.mls_tables.specs.declared.mode.Mode.TheVariants.{Execute, Read, Append, Write}
use Rattle.mls_requests.specs.declared.reason.Reason.{Reason}
use Rattle.mls_state.specs.State.{State, is_subject, is_active}
use Rattle.mls_review.specs.Dead.{IsDead, IsReason, obstacle, is_live}
use Rattle.mls_review.specs.declared.dead.Dead.{Dead}

-- The known subjects, by number. (own)
abbrev pub subjects : State → List ℕ
subjects v = listed (is_subject v) MAX_SUBJECTS

-- The active objects, by number. (own)
abbrev pub objects : State → List ℕ
objects v = listed (is_active v) MAX_OBJECTS

-- A permission and what no current label mends of it, where there is such a thing. (own)
abbrev pub dead_for : ℕ → ℕ → Mode → Option Reason → List Dead
dead_for s o x None = []
dead_for s o x (Some reason) = record { subject = s; object = o; mode = x; reason = reason } ∷ []

-- The finding that a permission is dead, where it is one and is dead. (own)
abbrev pub dead_in : State → ℕ → ℕ → Mode → List Dead
dead_in v s o x = if set.contains v.matrix (s, o, x) then dead_for s o x (obstacle v (s, o, x)) else []

-- The dead permissions of a subject on an object, in the order of modes. (own)
abbrev pub dead_at : State → ℕ → ℕ → List Dead
dead_at v s o = dead_in v s o Execute ++ dead_in v s o Read ++ dead_in v s o Append ++ dead_in v s o Write

-- The dead permissions of a subject, by object and mode. (own)
abbrev pub dead_of : State → ℕ → List Dead
dead_of v s = flat_map (dead_at v s) (objects v)

-- The dead permissions, by subject, object and mode. (own)
abbrev pub dead : State → List Dead
dead v = flat_map (dead_of v) (subjects v)

-- A finding is true: what it names is a permission and dead, and its reason is that of the first condition that fails
-- throughout. (own)
pub record IsTrueOf (v : State) (d : Dead) : Type 0 where
  pub permitted : IsTrue (set.contains v.matrix (d.subject, d.object, d.mode))
  pub dead : IsDead v (d.subject, d.object, d.mode)
  pub reason : IsReason v (d.subject, d.object, d.mode) d.reason

-- Whether a subject has a permission on an object that isn't dead. (own)
abbrev pub may_use : State → ℕ → ℕ → Bool
may_use v s o =
    is_live v (s, o, Execute) || (is_live v (s, o, Read) || (is_live v (s, o, Append) || is_live v (s, o, Write)))

-- Whether none of some subjects has a permission on an object that isn't dead. (own)
abbrev pub is_unused_by : State → List ℕ → ℕ → Bool
is_unused_by v some o = not (list_any (λ s. may_use v s o) some)

-- The objects on which no subject has a permission that isn't dead, by number. (own)
abbrev pub unused : State → List ℕ
unused v = filter (is_unused_by v (subjects v)) (objects v)

-- Whether a subject has no permission on some objects that isn't dead. (own)
abbrev pub is_idle_on : State → List ℕ → ℕ → Bool
is_idle_on v some s = not (list_any (may_use v s) some)

-- The subjects that have no permission that isn't dead, by number. (own)
abbrev pub idle : State → List ℕ
idle v = filter (is_idle_on v (objects v)) (subjects v)
