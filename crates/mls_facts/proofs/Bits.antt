-- The bits of a number, and the number of some bits.
use Rattle.std.specs.Prelude.{◌≡◌, ℕ, zero, suc, ◌+◌, ◌*◌, ◌^◌, ◌<◌, ◌≤◌, Bool, true, false, cond, ◌&&◌, nat_eq, nat_lt, refl}
use Rattle.std.specs.Int.{bit_at}
use Rattle.std.specs.FinSet.{contains}
use Rattle.std.proofs.lemmas.Nat.Bits.{bit_at-lt, same_from_bits_below, bit_at_cat_low, bit_at_cat_high, bit_at_above, bit_at-zero}
use Rattle.std.proofs.Common.{◌-◌, ◌⊎◌, inl, inr, arith, ◌∙◌}
use Rattle.std.proofs.lemmas.Bool.{cases_lt, cases_eq, le-ltb, lt-ltb}
use Rattle.std.proofs.Math.Nat.{sub_self}
use Rattle.std.proofs.lemmas.Bool.Decides.{nat_tests}
use Rattle.mls_facts.specs.Bits.{has_bit, number_of}
use Rattle.mls_facts.specs.Passing.{passing}
use Rattle.mls_facts.proofs.Passing.{contains-passing, none_below_zero}

pub number_of-lt : (p : ℕ → Bool) (n : ℕ) → number_of p n < 2 ^ n
unfolding number_of
number_of-lt p zero = omega arith
number_of-lt p (suc n) =
    let below : number_of p n < 2 ^ n = number_of-lt p n in
    elim (p n) as (λ b. cond b 1 0 * 2 ^ n + number_of p n < 2 ^ suc n) [ true ↦ omega arith | false ↦ omega arith ]

low_bit : (b : Bool) → bit_at (cond b 1 0) 0 ≡ cond b 1 0
low_bit true = refl
low_bit false = refl

high_bit : (b : Bool) (k : ℕ) → bit_at (cond b 1 0) (suc k) ≡ 0
high_bit true k = bit_at_above 1 1 (suc k) (omega arith) (omega arith)
high_bit false k = bit_at-zero (suc k)

bit_at-step : (p : ℕ → Bool) (n i rest : ℕ) → rest < 2 ^ n → bit_at rest i ≡ cond (nat_lt i n && p i) 1 0 → (i < n) ⊎ (n ≤ i) → (i ≡ n) ⊎ (i ≡ n → ⊥) → bit_at (cond (p n) 1 0 * 2 ^ n + rest) i ≡ cond (nat_lt i (suc n) && p i) 1 0
bit_at-step p n i rest small bits (inl below) _ = bit_at_cat_low _ n _ i below ∙ bits ∙ rw (lt-ltb i n below, lt-ltb i (suc n) (omega arith)) refl
bit_at-step p n i rest small bits (inr from) (inl same) = bit_at_cat_high _ n rest i small from ∙ rw (same, lt-ltb n (suc n) (omega arith), sub_self n) (low_bit (p n))
bit_at-step p n i rest small bits (inr from) (inr other) =
    let at : i - n ≡ suc (i - n - 1) = omega arith in
    bit_at_cat_high _ n rest i small from ∙ rw (at, le-ltb i (suc n) (omega arith)) (high_bit (p n) _)

-- the bits of a number given by a test are that test
pub bit_at-number_of : (p : ℕ → Bool) (n i : ℕ) → bit_at (number_of p n) i ≡ cond (nat_lt i n && p i) 1 0
unfolding number_of
bit_at-number_of p zero i = rw (none_below_zero p i) (bit_at-zero i)
bit_at-number_of p (suc n) i = bit_at-step p n i (number_of p n) (number_of-lt p n) (bit_at-number_of p n i) (cases_lt i n) (cases_eq i n)

-- a bit is 1 or 0
pub one_bit : (b : ℕ) → b < 2 → cond (nat_eq b 1) 1 0 ≡ b
one_bit b h = grind (arith, nat_tests)

-- the number of the bits of a number is that number
pub number_of-has_bit : (n b : ℕ) → b < 2 ^ n → number_of (has_bit b) n ≡ b
number_of-has_bit n b h = same_from_bits_below n _ b (number_of-lt _ n) h (λ i within. bit_at-number_of _ n i ∙ rw (lt-ltb i n within) (one_bit _ (bit_at-lt b i)))

-- and so where the bits are a set of numbers
pub number_of-bits : (n b : ℕ) → b < 2 ^ n → number_of (contains (passing (has_bit b) n)) n ≡ b
number_of-bits n b h = same_from_bits_below n _ b (number_of-lt _ n) h (λ i within. bit_at-number_of _ n i ∙ rw (contains-passing (has_bit b) n i, lt-ltb i n within) (one_bit _ (bit_at-lt b i)))
