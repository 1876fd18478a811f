-- What a request of one start asks of another, where all that it names is carried over by name.
use Rattle.std.specs.Prelude.{ℕ, List, Option, Some, None, option_map, get_or}
use Rattle.mls_labels.specs.Label.{Label}
use Rattle.mls_requests.specs.declared.action.Action.{Action}
use Rattle.mls_requests.specs.declared.action.Action.TheVariants.{Get, Release, Give, Rescind, Create, Delete}
use Rattle.mls_requests.specs.declared.action.Action.TheVariants.{SubjectLevel, ObjectLevel}
use Rattle.mls_requests.specs.declared.request.Request.{Request}
use Rattle.mls_lines.specs.Names.{Names}
use Rattle.mls_differences.specs.Alike.{carried_label}
use Rattle.mls_differences.specs.Counterparts.{counterpart}

-- Of two things that may lack: what is made of both, where both are there. (own)
abbrev pub of_both : {A B C : Type 0} → (A → B → C) → Option A → Option B → Option C
of_both make None b = None
of_both make (Some a) None = None
of_both make (Some a) (Some b) = Some (make a b)

-- The counterpart of an object, by a table that has one, or none, for each number. (own)
abbrev pub carried_object : List (Option ℕ) → ℕ → Option ℕ
carried_object objects o = get_or objects o None

-- What is made of the counterparts of a subject and an object, where both have one. (own)
abbrev pub carried_cell : Names → Names → List (Option ℕ) → (ℕ → ℕ → Action) → ℕ → ℕ → Option Action
carried_cell a b objects make s o =
    of_both make (counterpart a.subjects b.subjects s) (carried_object objects o)

-- A create by the counterparts of its parent and its two labels, where all have one. (own)
abbrev pub carried_create : Option ℕ → Option Label → Option Label → Option Action
carried_create None l i = None
carried_create (Some p) l i = of_both (Create p) l i

-- An action by the counterparts of what it names, where all that it names has one. (own)
abbrev pub carried_action : Names → Names → List (Option ℕ) → Action → Option Action
carried_action a b objects (Get x o) = option_map (Get x) (carried_object objects o)
carried_action a b objects (Release x o) = option_map (Release x) (carried_object objects o)
carried_action a b objects (Give x s o) = carried_cell a b objects (Give x) s o
carried_action a b objects (Rescind x s o) = carried_cell a b objects (Rescind x) s o
carried_action a b objects (Create p l i) =
    carried_create (carried_object objects p) (carried_label a.security b.security l)
    (carried_label a.integrity b.integrity i)
carried_action a b objects (Delete o) = option_map Delete (carried_object objects o)
carried_action a b objects (SubjectLevel l) = option_map SubjectLevel (carried_label a.security b.security l)
carried_action a b objects (ObjectLevel o l) =
    of_both ObjectLevel (carried_object objects o) (carried_label a.security b.security l)

-- A request of a subject that may lack, for an action that may. (own)
abbrev pub request_of : Option ℕ → Option Action → Option Request
request_of s action = of_both (λ s action. record { subject = s; action = action }) s action

-- A request by the counterparts of all that it names, its subject among them; none where one lacks. (own)
abbrev pub carried_request : Names → Names → List (Option ℕ) → Request → Option Request
carried_request a b objects r =
    request_of (counterpart a.subjects b.subjects r.subject) (carried_action a b objects r.action)
