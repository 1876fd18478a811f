-- Who is granted an action, or would be.
use Rattle.std.specs.Prelude.{◌≡◌, ℕ, Bool, is_some, Option, Some, None, List, [], ◌∷◌}
use Rattle.mls_requests.specs.declared.action.Action.{Action}
use Rattle.mls_state.specs.State.{State}
use Rattle.mls_remedies.specs.Able.{IsNext, IsByFirst, IsStepBy}
use Rattle.mls_remedies.specs.Authority.{own_get}
use Rattle.mls_remedies.specs.Steps.{own_step}
use Rattle.mls_remedies.specs.declared.others.Others.{Others}
use Rattle.mls_remedies.specs.declared.others.Others.TheVariants.{Now, Later, Nobody}
use Rattle.mls_remedies.specs.declared.step.Step.{Step}

-- Whether a subject is granted an action after a get of append or write of an object. (own)
abbrev pub has_get : State → Action → Option ℕ → ℕ → Bool
has_get v a gate s = is_some (own_get v s a gate)

-- The first subject that is, and that get. (own)
abbrev pub IsLeading : State → Action → Option ℕ → Option (ℕ × Action) → Type 0
IsLeading v a gate None = IsNext (has_get v a gate) 0 None
IsLeading v a gate (Some found) = (own_get v found.0 a gate ≡ Some found.1) × IsNext (has_get v a gate) 0 (Some found.0)

-- Who would be granted an action that nobody is granted now: the first that is after a get. (own)
abbrev pub IsLaterBy : State → Action → Option ℕ → Others → Type 0
IsLaterBy v a gate (Now t) = ⊥
IsLaterBy v a gate (Later s first) = IsLeading v a gate (Some (s, first))
IsLaterBy v a gate Nobody = IsLeading v a gate None

-- Who is granted an action: the first three; where nobody is, who would be. (own)
abbrev pub IsOthers : State → Action → Option ℕ → Others → Type 0
IsOthers v a gate (Now t) = IsByFirst v a t
IsOthers v a gate (Later s first) = IsStepBy v a None × IsLaterBy v a gate (Later s first)
IsOthers v a gate Nobody = IsStepBy v a None × IsLaterBy v a gate Nobody

-- The steps by which others are granted an action. (own)
abbrev pub others_steps : Action → Others → List Step
others_steps a (Now t) = t ∷ []
others_steps a (Later s first) = own_step s first ∷ own_step s a ∷ []
others_steps a Nobody = []

-- Those before the last of them. (own)
abbrev pub first_steps : Others → List Step
first_steps (Now t) = []
first_steps (Later s first) = own_step s first ∷ []
first_steps Nobody = []
