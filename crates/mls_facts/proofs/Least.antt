-- The least number that doesn't pass a test: where it is, and that it is the only one.
use Rattle.std.specs.Prelude.{◌≡◌, ℕ, zero, suc, ◌+◌, ◌<◌, ◌≤◌, Bool, true, false, cond, refl}
use Rattle.std.proofs.Common.{◌⊎◌, inl, inr, arith, sym, ap, ◌∙◌}
use Rattle.std.proofs.lemmas.Bool.{cases_eq, cases_order}
use Rattle.mls_facts.specs.Least.{least_failing}

either_most : (b : Bool) (m from count : ℕ) → m ≤ suc from + count → cond b m from ≤ from + suc count
either_most true m from count h = omega arith
either_most false m from count h = omega arith

-- it is at most the number after all
pub least_failing-most : (p : ℕ → Bool) (count from : ℕ) → least_failing p count from ≤ from + count
unfolding least_failing
least_failing-most p zero from = omega arith
least_failing-most p (suc count) from = either_most (p from) (least_failing p count (suc from)) from count (least_failing-most p count (suc from))

either_least : (b : Bool) (m from : ℕ) → suc from ≤ m → from ≤ cond b m from
either_least true m from h = omega arith
either_least false m from h = omega arith

pub least_failing-from : (p : ℕ → Bool) (count from : ℕ) → from ≤ least_failing p count from
unfolding least_failing
least_failing-from p zero from = omega arith
least_failing-from p (suc count) from = either_least (p from) (least_failing p count (suc from)) from (least_failing-from p count (suc from))

passes_below : (p : ℕ → Bool) (m from q : ℕ) (b : Bool) → p from ≡ b → (suc from ≤ q → q < m → p q ≡ true) → from ≤ q → q < cond b m from → (q ≡ from) ⊎ (q ≡ from → ⊥) → p q ≡ true
passes_below p m from q true is rest low high (inl same) = ap p same ∙ is
passes_below p m from q true is rest low high (inr other) = rest (omega (arith, other)) high
passes_below p m from q false is rest low high which = absurd (omega arith)

-- what is below it passes
pub least_failing-passes : (p : ℕ → Bool) (count from q : ℕ) → from ≤ q → q < least_failing p count from → p q ≡ true
unfolding least_failing
least_failing-passes p zero from q low high = absurd (omega arith)
least_failing-passes p (suc count) from q low high =
    passes_below p (least_failing p count (suc from)) from q (p from) refl (least_failing-passes p count (suc from) q) low high (cases_eq q from)

fails_there : (p : ℕ → Bool) (m from count : ℕ) (b : Bool) → p from ≡ b → (m < suc from + count → p m ≡ false) → cond b m from < from + suc count → p (cond b m from) ≡ false
fails_there p m from count true is rest high = rest (omega arith)
fails_there p m from count false is rest high = is

-- it fails itself, where it is one of them
pub least_failing-fails : (p : ℕ → Bool) (count from : ℕ) → least_failing p count from < from + count → p (least_failing p count from) ≡ false
unfolding least_failing
least_failing-fails p zero from high = absurd (omega arith)
least_failing-fails p (suc count) from high =
    fails_there p (least_failing p count (suc from)) from count (p from) refl (least_failing-fails p count (suc from)) high

-- no other number is so
pub least_failing-is : (p : ℕ → Bool) (count from m : ℕ) → from ≤ m → m ≤ from + count → ((q : ℕ) → from ≤ q → q < m → p q ≡ true) → (m < from + count → p m ≡ false) → least_failing p count from ≡ m
least_failing-is p count from m low high passes fails = at (cases_order (least_failing p count from) m) where
  least : ℕ
  least = least_failing p count from

  at : (least ≡ m) ⊎ ((least < m) ⊎ (m < least)) → least ≡ m
  at (inl same) = same
  at (inr (inl less)) =
      let there : p least ≡ false = least_failing-fails p count from (omega arith) in
      let no : true ≡ false = sym (passes least (least_failing-from p count from) less) ∙ there in cc
  at (inr (inr more)) =
      let most : least ≤ from + count = least_failing-most p count from in
      let no : true ≡ false = sym (least_failing-passes p count from m low more) ∙ fails (omega arith) in cc

-- tests that agree on the numbers have one
pub least_failing-same : (p q : ℕ → Bool) (count from : ℕ) → ((k : ℕ) → from ≤ k → k < from + count → p k ≡ q k) → least_failing p count from ≡ least_failing q count from
unfolding least_failing
least_failing-same p q zero from same = refl
least_failing-same p q (suc count) from same =
    let first : p from ≡ q from = same from (omega arith) (omega arith) in
    let rest : least_failing p count (suc from) ≡ least_failing q count (suc from) = least_failing-same p q count (suc from) (λ k low high. same k (omega arith) (omega arith)) in
    λ i. cond (first i) (rest i) from
