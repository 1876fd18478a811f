-- The least number that doesn't pass a test.
use Rattle.std.specs.Prelude.{ℕ, zero, suc, Bool, if◌then◌else◌}

-- The least number from one on, of so many, that doesn't pass the test; the number after them where each passes. (own)
unfoldable pub least_failing : (ℕ → Bool) → ℕ → ℕ → ℕ
least_failing p zero from = from
least_failing p (suc count) from = if p from then least_failing p count (suc from) else from
