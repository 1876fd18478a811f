-- Steps, one after the other.
use Rattle.std.proofs.Common.{◌≡◌, ℕ, Bool, true, ◌&&◌, List, [], ◌∷◌, ◌++◌, refl, sym, ap, subst, ◌∙◌}
use Rattle.std.proofs.lemmas.Bool.{and_parts, and_from}
use Rattle.mls_requests.specs.declared.action.Action.{Action}
use Rattle.mls_state.specs.State.{State}
use Rattle.mls_rules.specs.Rules.{after}
use Rattle.mls_remedies.specs.Remedies.{IsLed}
use Rattle.mls_remedies.specs.Steps.{asked_by, are_open, is_open, may, own_step, taken}
use Rattle.mls_remedies.specs.declared.ending.Ending.{Ending}
use Rattle.mls_remedies.specs.declared.step.Step.{Step}

pub taken_append : (v : State) (xs ys : List Step) → taken v (xs ++ ys) ≡ taken (taken v xs) ys
taken_append v [] ys = refl
taken_append v (t ∷ xs) ys = taken_append (after v (asked_by t)) xs ys

pub open_append : (v : State) (xs ys : List Step) → are_open v xs ≡ true → are_open (taken v xs) ys ≡ true → are_open v (xs ++ ys) ≡ true
open_append v [] ys h k = k
open_append v (t ∷ xs) ys h k =
    let parts = and_parts (is_open v t) (are_open (after v (asked_by t)) xs) h in
    and_from (is_open v t) (are_open (after v (asked_by t)) (xs ++ ys)) parts.0 (open_append (after v (asked_by t)) xs ys parts.1 k)

-- the step of one subject
pub own_open : (v : State) (s : ℕ) (a : Action) → may v a s ≡ true → is_open v (own_step s a) ≡ true
own_open v s a granted = granted

pub one_open : (v : State) (t : Step) → is_open v t ≡ true → are_open v (t ∷ []) ≡ true
one_open v t granted = and_from (is_open v t) true granted refl

-- what these steps lead to others lead to that are the same
pub led_as : (v : State) (s : ℕ) (a : Action) (steps others : List Step) (ending other : Ending) → steps ≡ others → ending ≡ other
    → IsLed v s a others other → IsLed v s a steps ending
led_as v s a steps others ending other same alike led =
    subst (λ e. IsLed v s a steps e) (sym alike) (subst (λ ts. IsLed v s a ts other) (sym same) led)
