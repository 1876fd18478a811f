-- Numbers by their bits.
use Rattle.std.specs.Prelude.{ℕ, zero, suc, ◌+◌, ◌*◌, ◌^◌, Bool, cond, nat_eq}
use Rattle.std.specs.Int.{bit_at}

-- Whether bit k of n is 1. (own)
abbrev pub has_bit : ℕ → ℕ → Bool
has_bit n k = nat_eq (bit_at n k) 1

-- The number whose bits below n are 1 where the test passes. (own)
unfoldable pub number_of : (ℕ → Bool) → ℕ → ℕ
number_of p zero = 0
number_of p (suc n) = cond (p n) 1 0 * 2 ^ n + number_of p n
