-- The bits of words of accesses.
use Rattle.std.proofs.Common.{◌≡◌, ◌≢◌, ℕ, ◌^◌, ◌*◌, ◌%◌, ◌<◌, true, false, ap, nat_eq, bit_or, bit_and}
use Rattle.std.specs.Int.{bit_not, w64}
use Rattle.std.proofs.lemmas.Nat.Bits.{bit_at_set_same, bit_at_set_other, bit_at_clear_same, bit_at_clear_other}
use Rattle.mls_sessions.specs.Cells.{has_bit}

pub set_bit : (n k : ℕ) → k < 64 → (has_bit (bit_or n (1 * 2 ^ k % 2 ^ 64)) k ≡ true) × ((i : ℕ) → i < 64 → i ≢ k → has_bit (bit_or n (1 * 2 ^ k % 2 ^ 64)) i ≡ has_bit n i)
set_bit n k small = (ap (λ m. nat_eq m 1) (bit_at_set_same w64 n k small), λ i _ ne. ap (λ m. nat_eq m 1) (bit_at_set_other w64 n k small i ne))

pub cleared_bit : (n k : ℕ) → k < 64 → (has_bit (bit_and n (bit_not w64 (1 * 2 ^ k % 2 ^ 64))) k ≡ false) × ((i : ℕ) → i < 64 → i ≢ k → has_bit (bit_and n (bit_not w64 (1 * 2 ^ k % 2 ^ 64))) i ≡ has_bit n i)
cleared_bit n k small = (ap (λ m. nat_eq m 1) (bit_at_clear_same w64 n k small), λ i within ne. ap (λ m. nat_eq m 1) (bit_at_clear_other w64 n k small i within ne))
