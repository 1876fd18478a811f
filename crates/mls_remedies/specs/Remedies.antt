-- The remedy of a request that is denied.
use Rattle.std.specs.Prelude.{◌≡◌, ℕ, true, List, []}
use Rattle.mls_requests.specs.declared.action.Action.{Action}
use Rattle.mls_requests.specs.declared.action.Action.TheVariants.{Get, Release, Give, Rescind, Create, Delete}
use Rattle.mls_requests.specs.declared.action.Action.TheVariants.{SubjectLevel, ObjectLevel}
use Rattle.mls_requests.specs.declared.request.Request.{Request}
use Rattle.mls_state.specs.State.{State}
use Rattle.mls_state.specs.Properties.{discretionary_holds}
use Rattle.mls_remedies.specs.Changes.{IsChangeRemedy}
use Rattle.mls_remedies.specs.Gets.{IsGetRemedy}
use Rattle.mls_remedies.specs.Steps.{are_open, is_open, may, taken}
use Rattle.mls_remedies.specs.declared.ending.Ending.{Ending}
use Rattle.mls_remedies.specs.declared.ending.Ending.TheVariants.{Asked, Instead, NoLevel, NoGiver, Nothing}
use Rattle.mls_remedies.specs.declared.step.Step.{Step}

-- The remedy of an action of a subject. (own)
abbrev pub IsActionRemedy : State → ℕ → Action → List Step → Ending → Type 0
IsActionRemedy v s (Get x o) steps ending = IsGetRemedy (discretionary_holds v (s, o, x)) v s o x steps ending
IsActionRemedy v s (Release x o) steps ending = IsChangeRemedy v s (Release x o) steps ending
IsActionRemedy v s (Give x t o) steps ending = IsChangeRemedy v s (Give x t o) steps ending
IsActionRemedy v s (Rescind x t o) steps ending = IsChangeRemedy v s (Rescind x t o) steps ending
IsActionRemedy v s (Create p l i) steps ending = IsChangeRemedy v s (Create p l i) steps ending
IsActionRemedy v s (Delete o) steps ending = IsChangeRemedy v s (Delete o) steps ending
IsActionRemedy v s (SubjectLevel l) steps ending = IsChangeRemedy v s (SubjectLevel l) steps ending
IsActionRemedy v s (ObjectLevel o l) steps ending = IsChangeRemedy v s (ObjectLevel o l) steps ending

-- The remedy of a request. (own)
abbrev pub IsRemedy : State → Request → List Step → Ending → Type 0
IsRemedy v r steps ending = IsActionRemedy v r.subject r.action steps ending

-- Each step is granted in the state that those before it lead to, whoever of its subjects makes it; and after them the
-- action that was asked is granted to its subject, or else to others in its place; or there are no steps. (own)
abbrev pub IsLed : State → ℕ → Action → List Step → Ending → Type 0
IsLed v s a steps Asked = (are_open v steps ≡ true) × (may (taken v steps) a s ≡ true)
IsLed v s a steps (Instead t) =
    (are_open v steps ≡ true) × (is_open (taken v steps) t ≡ true) × (t.action ≡ a)
IsLed v s a steps NoLevel = steps ≡ []
IsLed v s a steps (NoGiver x t o) = steps ≡ []
IsLed v s a steps Nothing = steps ≡ []
