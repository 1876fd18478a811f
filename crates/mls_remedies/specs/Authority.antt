-- The get of append or write of a parent that gives authority.
use Rattle.std.specs.Prelude.{ℕ, Bool, ◌&&◌, Option, Some, None, if◌then◌else◌}
use Rattle.std.specs.FinMap as table
use Rattle.mls_tables.specs.declared.mode.Mode.TheVariants.{Append, Write}
use Rattle.mls_requests.specs.declared.action.Action.{Action}
use Rattle.mls_requests.specs.declared.action.Action.TheVariants.{Get, Release, Give, Rescind, Create, Delete}
use Rattle.mls_requests.specs.declared.action.Action.TheVariants.{SubjectLevel, ObjectLevel}
use Rattle.mls_state.specs.State.{State}
use Rattle.mls_rules.specs.Rules.{after}
use Rattle.mls_remedies.specs.Steps.{asks, may}

-- The object of which a subject needs an access for an action: the parent. (own, after MTR-2997's control by write
-- access to the parent)
abbrev pub gate_of : State → Action → Option ℕ
gate_of v (Create p l i) = Some p
gate_of v (Give x t o) = table.get v.parent o
gate_of v (Rescind x t o) = table.get v.parent o
gate_of v (Delete o) = table.get v.parent o
gate_of v (ObjectLevel o l) = table.get v.parent o
gate_of v (Get x o) = None
gate_of v (Release x o) = None
gate_of v (SubjectLevel l) = None

-- Whether a subject is granted an action, and after it another. (own)
abbrev pub leads : State → ℕ → Action → Action → Bool
leads v s a first = may v first s && may (after v (asks s first)) a s

-- The one of two actions after which another is granted, where one is: the first. (own)
abbrev pub first_of : State → ℕ → Action → Action → Action → Option Action
first_of v s a one other = if leads v s a one then Some one else (if leads v s a other then Some other else None)

-- The get of append or write of an object after which an action is granted. (own)
abbrev pub own_get : State → ℕ → Action → Option ℕ → Option Action
own_get v s a None = None
own_get v s a (Some p) = first_of v s a (Get Append p) (Get Write p)
