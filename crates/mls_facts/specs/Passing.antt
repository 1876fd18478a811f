-- The numbers that pass a test.
use Rattle.std.specs.Prelude.{ℕ, zero, suc, Bool, cond}
use Rattle.std.specs.Ordering.{nat_cmp}
use Rattle.std.specs.FinSet.{FinSet, empty, insert}

-- The set of the numbers below n that pass the test. (own)
unfoldable pub passing : (ℕ → Bool) → ℕ → FinSet nat_cmp
passing p zero = empty
passing p (suc n) = cond (p n) (insert (passing p n) n) (passing p n)
