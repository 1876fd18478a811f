-- Who is granted an action: the first three, by number.
use Rattle.std.specs.Prelude.{◌≡◌, ℕ, suc, ◌<◌, ◌≤◌, Bool, true, false, Option, Some, None}
use Rattle.mls_requests.specs.declared.action.Action.{Action}
use Rattle.mls_state.specs.State.{State}
use Rattle.mls_remedies.specs.Steps.{may}
use Rattle.mls_remedies.specs.declared.step.Step.{Step}
use Rattle.mls_remedies.specs.declared.who.Who.{Who}
use Rattle.mls_remedies.specs.declared.who.Who.TheVariants.{One, Two, Three}

-- No number from one on, up to another, passes a test. (own)
abbrev pub NoneBetween : (ℕ → Bool) → ℕ → ℕ → Type 0
NoneBetween p from to = (n : ℕ) → from ≤ n → n < to → p n ≡ false

-- The first number, from one on, that passes a test; none where none does. (own)
abbrev pub IsNext : (ℕ → Bool) → ℕ → Option ℕ → Type 0
IsNext p from None = (n : ℕ) → from ≤ n → p n ≡ false
IsNext p from (Some s) = (p s ≡ true) × (from ≤ s) × NoneBetween p from s

-- The first number behind one that passes a test. (own)
abbrev pub IsAfter : (ℕ → Bool) → ℕ → Option ℕ → Type 0
IsAfter p s found = IsNext p (suc s) found

-- Subjects are the first three that pass a test, or all where they are fewer. (own)
abbrev pub IsWho : (ℕ → Bool) → Who → Type 0
IsWho p (One s) = IsNext p 0 (Some s) × IsAfter p s None
IsWho p (Two s t) = IsNext p 0 (Some s) × IsAfter p s (Some t) × IsAfter p t None
IsWho p (Three s t u) = IsNext p 0 (Some s) × IsAfter p s (Some t) × IsAfter p t (Some u)

-- A step is of an action, and its subjects are the first three that are granted it, or all where they are fewer. (own)
pub record IsByFirst (v : State) (a : Action) (t : Step) : Type 0 where
  pub action : t.action ≡ a
  pub who : IsWho (may v a) t.who

-- The step of those who are granted an action; none where nobody is. (own)
abbrev pub IsStepBy : State → Action → Option Step → Type 0
IsStepBy v a None = (s : ℕ) → may v a s ≡ false
IsStepBy v a (Some t) = IsByFirst v a t
