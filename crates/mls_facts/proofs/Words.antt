-- Bits in words of 64: where each stands, and what a bit more or less changes.
use Rattle.std.specs.Prelude.{◌≡◌, ℕ, ◌+◌, ◌*◌, ◌/◌, ◌%◌, ◌^◌, ◌<◌, ◌≤◌, true, false, not, ◌&&◌, ◌||◌, nat_eq, bit_or, bit_and, refl}
use Rattle.std.specs.Int.{bit_at, bit_not, w64}
use Rattle.std.specs.FinSet.{contains}
use Rattle.std.proofs.Common.{inl, inr, arith, sym, ap, ◌∙◌}
use Rattle.std.proofs.lemmas.Bool.{cases_eq, lt-ltb}
use Rattle.std.proofs.lemmas.Bool.Decides.{nat_tests}
use Rattle.std.proofs.lemmas.Nat.Bits.{bit_at-lt, bit_at_set_same, bit_at_set_other, bit_at_clear_same, bit_at_clear_other, same_from_bits_below}
use Rattle.mls_facts.specs.Bits.{has_bit, number_of}
use Rattle.mls_facts.specs.Words.{has_bit_in}
use Rattle.mls_facts.specs.Passing.{passing}
use Rattle.mls_facts.proofs.Bits.{number_of-lt, bit_at-number_of, one_bit}
use Rattle.mls_facts.proofs.Passing.{contains-passing}

-- the word of a bit, and its place there
pub quotient : (k i : ℕ) → i < 64 → (k * 64 + i) / 64 ≡ k
quotient k i within = omega arith

pub remainder : (k i : ℕ) → i < 64 → (k * 64 + i) % 64 ≡ i
remainder k i within = omega arith

pub place_within : (n : ℕ) → n % 64 < 64
place_within n = omega arith

pub place_back : (n : ℕ) → n / 64 * 64 + n % 64 ≡ n
place_back n = omega arith

pub has_bit_in-at : (word : ℕ → ℕ) (k i : ℕ) → i < 64 → has_bit_in word (k * 64 + i) ≡ has_bit (word k) i
has_bit_in-at word k i within = rw (quotient k i within, remainder k i within) refl

same_place : (q n : ℕ) → q / 64 ≡ n / 64 → q % 64 ≡ n % 64 → q ≡ n
same_place q n e f = sym (place_back q) ∙ rw (e, f) (place_back n)

other_word : (q n : ℕ) → (q / 64 ≡ n / 64 → ⊥) → nat_eq q n ≡ false
other_word q n other = elim (cases_eq q n) [
  | inl same ↦ absurd (other (ap (λ m. m / 64) same))
  | inr apart ↦ grind (arith, nat_tests, apart)
]

other_place : (q n : ℕ) → (q % 64 ≡ n % 64 → ⊥) → nat_eq q n ≡ false
other_place q n other = elim (cases_eq q n) [
  | inl same ↦ absurd (other (ap (λ m. m % 64) same))
  | inr apart ↦ grind (arith, nat_tests, apart)
]

itself : (q n : ℕ) → q ≡ n → nat_eq q n ≡ true
itself q n same = grind (arith, nat_tests, same)

module _ (old new : ℕ → ℕ) (n : ℕ) (others : (k : ℕ) → (k ≡ n / 64 → ⊥) → new k ≡ old k) where
  -- with a bit more
  pub has_bit_in-set : new (n / 64) ≡ bit_or (old (n / 64)) (1 * 2 ^ (n % 64) % 2 ^ 64) → (q : ℕ) → has_bit_in new q ≡ (nat_eq q n || has_bit_in old q)
  has_bit_in-set changed q = elim (cases_eq (q / 64) (n / 64)) [
    | inl same ↦ elim (cases_eq (q % 64) (n % 64)) [
      | inl here ↦
          let bit : bit_at (bit_or (old (n / 64)) (1 * 2 ^ (n % 64) % 2 ^ 64)) (n % 64) ≡ 1 = bit_at_set_same w64 (old (n / 64)) (n % 64) (place_within n) in
          rw (itself q n (same_place q n same here), same, here, changed, bit) refl
      | inr there ↦
          let bit : bit_at (bit_or (old (n / 64)) (1 * 2 ^ (n % 64) % 2 ^ 64)) (q % 64) ≡ bit_at (old (n / 64)) (q % 64) = bit_at_set_other w64 (old (n / 64)) (n % 64) (place_within n) (q % 64) there in
          rw (other_place q n there, same, changed, bit) refl
    ]
    | inr other ↦ rw (other_word q n other, others (q / 64) other) refl
  ]

  -- with a bit less
  pub has_bit_in-clear : new (n / 64) ≡ bit_and (old (n / 64)) (bit_not w64 (1 * 2 ^ (n % 64) % 2 ^ 64)) → (q : ℕ) → has_bit_in new q ≡ (not (nat_eq q n) && has_bit_in old q)
  has_bit_in-clear changed q = elim (cases_eq (q / 64) (n / 64)) [
    | inl same ↦ elim (cases_eq (q % 64) (n % 64)) [
      | inl here ↦
          let bit : bit_at (bit_and (old (n / 64)) (bit_not w64 (1 * 2 ^ (n % 64) % 2 ^ 64))) (n % 64) ≡ 0 = bit_at_clear_same w64 (old (n / 64)) (n % 64) (place_within n) in
          rw (itself q n (same_place q n same here), same, here, changed, bit) refl
      | inr there ↦
          let bit : bit_at (bit_and (old (n / 64)) (bit_not w64 (1 * 2 ^ (n % 64) % 2 ^ 64))) (q % 64) ≡ bit_at (old (n / 64)) (q % 64) = bit_at_clear_other w64 (old (n / 64)) (n % 64) (place_within n) (q % 64) (place_within q) there in
          rw (other_place q n there, same, changed, bit) refl
    ]
    | inr other ↦ rw (other_word q n other, others (q / 64) other) refl
  ]

in_word : (total k i : ℕ) → k * 64 + 64 ≤ total → i < 64 → k * 64 + i < total
in_word total k i fits within = omega arith

-- the word of the bits of a row of words is that word
pub number_of-word : (word : ℕ → ℕ) (total k b : ℕ) → word k ≡ b → b < 2 ^ 64 → k * 64 + 64 ≤ total → number_of (λ i. contains (passing (has_bit_in word) total) (k * 64 + i)) 64 ≡ b
number_of-word word total k b is small fits = same_from_bits_below 64 _ b (number_of-lt _ 64) small (λ i within.
    bit_at-number_of _ 64 i
    ∙ rw (contains-passing (has_bit_in word) total (k * 64 + i), lt-ltb i 64 within, lt-ltb (k * 64 + i) total (in_word total k i fits within), has_bit_in-at word k i within, is) (one_bit _ (bit_at-lt b i)))

-- each of four words lies within 256 bits
pub fits_first : 0 * 64 + 64 ≤ 256
fits_first = omega arith

pub fits_second : 1 * 64 + 64 ≤ 256
fits_second = omega arith

pub fits_third : 2 * 64 + 64 ≤ 256
fits_third = omega arith

pub fits_fourth : 3 * 64 + 64 ≤ 256
fits_fourth = omega arith
