-- What the remedy of a request that is no get leads to.
use Rattle.std.proofs.Common.{◌≡◌, ℕ, Bool, true, false, Option, Some, None, List, [], ◌∷◌, ◌++◌, refl, ap, ◌∙◌}
use Rattle.mls_requests.specs.declared.action.Action.{Action}
use Rattle.mls_state.specs.State.{State}
use Rattle.mls_rules.specs.Rules.{after}
use Rattle.mls_remedies.specs.Authority.{own_get}
use Rattle.mls_remedies.specs.Changes.{is_shared, IsByOthers, IsByOwn, IsChangedBy, IsFinished, IsFreed, IsWithLast}
use Rattle.mls_remedies.specs.Others.{IsOthers}
use Rattle.mls_remedies.specs.Remedies.{IsLed}
use Rattle.mls_remedies.specs.Steps.{asks, are_open, is_open, may, own_step, taken}
use Rattle.mls_remedies.specs.declared.ending.Ending.{Ending}
use Rattle.mls_remedies.specs.declared.ending.Ending.TheVariants.{Asked, Instead, Nothing}
use Rattle.mls_remedies.specs.declared.others.Others.{Others}
use Rattle.mls_remedies.specs.declared.others.Others.TheVariants.{Now, Later, Nobody}
use Rattle.mls_remedies.specs.declared.step.Step.{Step}
use Rattle.mls_remedies.proofs.Givings.{first_open, own_leads}
use Rattle.mls_remedies.proofs.Steps.{led_as, one_open, open_append, own_open, taken_append}

module _ (v : State) (s : ℕ) (a : Action) (gate : Option ℕ) (ways steps : List Step) (ending : Ending) where
  -- the step of one subject behind them
  behind_open : (t : ℕ) (first : Action) → are_open v ways ≡ true → may (taken v ways) first t ≡ true → are_open v (ways ++ own_step t first ∷ []) ≡ true
  behind_open t first open_ granted =
      open_append v ways (own_step t first ∷ []) open_ (one_open (taken v ways) (own_step t first) (own_open (taken v ways) t first granted))

  with_last_led : (others : Others) → are_open v ways ≡ true → IsOthers (taken v ways) a gate others → IsWithLast a ways others steps ending
      → IsLed v s a steps ending
  with_last_led (Now t) open_ is last =
      led_as v s a steps ways ending (Instead t) last.0 last.1 (open_, first_open (taken v ways) a t is, is.action)
  with_last_led (Later t first) open_ is last =
      let granted = own_leads (taken v ways) t a gate first is.1.0 in
      led_as v s a steps (ways ++ own_step t first ∷ []) ending (Instead (own_step t a)) last.0 last.1 (
        behind_open t first open_ granted.0,
        ap (λ w. is_open w (own_step t a)) (taken_append v ways (own_step t first ∷ []))
            ∙ own_open (after (taken v ways) (asks t first)) t a granted.1,
        refl,
      )
  with_last_led Nobody open_ is last = led_as v s a steps [] ending Nothing last.0 last.1 refl

  by_others_led : (b : Bool) → are_open v ways ≡ true → IsByOthers b (taken v ways) a gate ways steps ending → IsLed v s a steps ending
  by_others_led true open_ by = with_last_led by.0 open_ by.1 by.2
  by_others_led false open_ by = led_as v s a steps [] ending Nothing by.0 by.1 refl

  by_own_led : (found : Option Action) → own_get (taken v ways) s a gate ≡ found → are_open v ways ≡ true
      → IsByOwn found (taken v ways) s a gate ways steps ending → IsLed v s a steps ending
  by_own_led (Some first) is open_ by =
      let granted = own_leads (taken v ways) s a gate first is in
      led_as v s a steps (ways ++ own_step s first ∷ []) ending Asked by.0 by.1 (
        behind_open s first open_ granted.0,
        ap (λ w. may w a s) (taken_append v ways (own_step s first ∷ [])) ∙ granted.1,
      )
  by_own_led None is open_ by = by_others_led (is_shared a) open_ by

  finished_led : (b : Bool) → may (taken v ways) a s ≡ b → are_open v ways ≡ true → IsFinished b (taken v ways) s a gate ways steps ending
      → IsLed v s a steps ending
  finished_led true is open_ finished = led_as v s a steps ways ending Asked finished.0 finished.1 (open_, is)
  finished_led false is open_ finished = by_own_led (own_get (taken v ways) s a gate) refl open_ finished

  freed_led : (b : Bool) → are_open v ways ≡ b → IsFreed b (taken v ways) s a gate ways steps ending → IsLed v s a steps ending
  freed_led true open_ freed = finished_led (may (taken v ways) a s) refl open_ freed
  freed_led false open_ freed = led_as v s a steps [] ending Nothing freed.0 freed.1 refl

  pub changed_led : IsChangedBy v s a gate ways steps ending → IsLed v s a steps ending
  changed_led changed = freed_led (are_open v ways) refl changed
