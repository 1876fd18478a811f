-- Parents that lead back to an object, step by step.
use Rattle.std.proofs.Common.{◌≡◌, ◌==◌, ℕ, zero, suc, ◌-◌, ◌<◌, false, true, List, Option, Some, None, refl, arith}
use Rattle.std.proofs.lemmas.Bool.Decides.{nat_tests}
use Rattle.mls_start_text.specs.declared.labels.LabelledChild.{LabelledChild}
use Rattle.mls_start_faults.specs.Starts.{parent_of, leads_to}

module _ (children : List LabelledChild) (n : ℕ) where
  -- from the root they lead nowhere
  pub leads_none : (steps : ℕ) → leads_to children n steps None ≡ false
  unfolding leads_to
  leads_none zero = refl
  leads_none (suc steps) = refl

  -- in no steps they lead nowhere
  pub leads_end : (next : Option ℕ) → leads_to children n 0 next ≡ false
  unfolding leads_to
  leads_end next = refl

  -- they are there
  pub leads_here : (steps : ℕ) → 0 < steps → leads_to children n steps (Some n) ≡ true
  unfolding leads_to
  leads_here zero h = absurd (omega (arith, h))
  leads_here (suc steps) h = let e : (n == n) ≡ true = grind (arith, nat_tests) in rw e

  -- they lead on
  pub leads_on : (steps p : ℕ) → 0 < steps → (p ≡ n → ⊥) → leads_to children n steps (Some p) ≡ leads_to children n (steps - 1) (parent_of children p)
  unfolding leads_to
  leads_on zero p h ne = absurd (omega (arith, h))
  leads_on (suc steps) p h ne =
      let e : (p == n) ≡ false = grind (arith, nat_tests, ne) in
      let s : suc steps - 1 ≡ steps = omega arith in
      rw (e, s)
