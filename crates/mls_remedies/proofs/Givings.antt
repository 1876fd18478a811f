-- Those who are granted an action, or would be, are.
use Rattle.std.proofs.Common.{◌≡◌, ℕ, Bool, true, false, ◌&&◌, Option, Some, None, unwrap_or, List, [], ◌∷◌, if◌then◌else◌, refl, sym, ap, subst, ◌∙◌}
use Rattle.std.proofs.lemmas.Bool.{and_parts, and_from}
use Rattle.mls_tables.specs.declared.mode.Mode.TheVariants.{Append, Write}
use Rattle.mls_requests.specs.declared.action.Action.{Action}
use Rattle.mls_requests.specs.declared.action.Action.TheVariants.{Get}
use Rattle.mls_state.specs.State.{State}
use Rattle.mls_rules.specs.Rules.{after}
use Rattle.mls_remedies.specs.Able.{IsByFirst, IsWho}
use Rattle.mls_remedies.specs.Authority.{first_of, leads, own_get}
use Rattle.mls_remedies.specs.Others.{IsOthers, others_steps}
use Rattle.mls_remedies.specs.Steps.{all_may, asks, are_open, is_open, may, own_step}
use Rattle.mls_remedies.specs.declared.others.Others.{Others}
use Rattle.mls_remedies.specs.declared.others.Others.TheVariants.{Now, Later, Nobody}
use Rattle.mls_remedies.specs.declared.step.Step.{Step}
use Rattle.mls_remedies.specs.declared.who.Who.{Who}
use Rattle.mls_remedies.specs.declared.who.Who.TheVariants.{One, Two, Three}
use Rattle.mls_remedies.proofs.Steps.{own_open, one_open}

who_may : (v : State) (a : Action) (who : Who) → IsWho (may v a) who → all_may v a who ≡ true
who_may v a (One s) is = is.0.0
who_may v a (Two s t) is = and_from (may v a s) (may v a t) is.0.0 is.1.0
who_may v a (Three s t u) is = and_from (may v a s) (may v a t && may v a u) is.0.0 (and_from (may v a t) (may v a u) is.1.0 is.2.0)

-- the step of the first three is granted to each
pub first_open : (v : State) (a : Action) (t : Step) → IsByFirst v a t → is_open v t ≡ true
first_open v a t is = subst (λ b. all_may v b t.who ≡ true) (sym is.action) (who_may v a t.who is.who)

first_leads : (v : State) (s : ℕ) (a one other first : Action) → first_of v s a one other ≡ Some first → leads v s a first ≡ true
first_leads v s a one other first is = from (leads v s a one) (leads v s a other) refl refl is where
  from : (b c : Bool) → leads v s a one ≡ b → leads v s a other ≡ c → (if b then Some one else (if c then Some other else None)) ≡ Some first
      → leads v s a first ≡ true
  from true c h k e = subst (λ f. leads v s a f ≡ true) (ap (λ o. unwrap_or o one) e) h
  from false true h k e = subst (λ f. leads v s a f ≡ true) (ap (λ o. unwrap_or o other) e) k
  from false false h k e = cc

-- after the get that is found the action is granted
pub own_leads : (v : State) (s : ℕ) (a : Action) (gate : Option ℕ) (first : Action) → own_get v s a gate ≡ Some first
    → (may v first s ≡ true) × (may (after v (asks s first)) a s ≡ true)
own_leads v s a None first is = cc
own_leads v s a (Some p) first is =
    and_parts (may v first s) (may (after v (asks s first)) a s) (first_leads v s a (Get Append p) (Get Write p) first is)

-- each of the steps of others is granted
pub others_open : (v : State) (a : Action) (gate : Option ℕ) (others : Others) → IsOthers v a gate others → are_open v (others_steps a others) ≡ true
others_open v a gate (Now t) is = one_open v t (first_open v a t is)
others_open v a gate (Later s first) is =
    let granted = own_leads v s a gate first is.1.0 in
    let w = after v (asks s first) in
    and_from (is_open v (own_step s first)) (are_open w (own_step s a ∷ [])) (own_open v s first granted.0)
    (one_open w (own_step s a) (own_open w s a granted.1))
others_open v a gate Nobody is = refl
