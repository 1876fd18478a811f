-- How words of 64 bits stand for a set of object numbers.
use Rattle.std.specs.Prelude.{◌≡◌, ℕ, ◌-◌, ◌/◌, ◌^◌, ◌<◌, ◌≤◌, Bool, List, length, slice_index_or}
use Rattle.std.proofs.Common.{◌%◌}
use Rattle.std.specs.Int.{bit_at}
use Rattle.std.specs.Ordering.{nat_cmp}
use Rattle.std.specs.FinSet.{FinSet}
use Rattle.mls_facts.specs.Bits.{has_bit}
use Rattle.mls_facts.specs.Passing.{passing}
use Rattle.mls_tables.specs.declared.limits.TheConstants.{MAX_OBJECTS}

-- A word whose 64 bits are all 1. (own)
abbrev pub full_word : ℕ
full_word = 2 ^ 64 - 1

-- Whether the bit of a number is 1: its place is the number's rest by 64, in the word at its quotient. (own)
abbrev pub has_number : List ℕ → ℕ → Bool
has_number words n = has_bit (slice_index_or words (n / 64) 0) (n % 64)

-- The numbers whose bits are 1. (own)
unfoldable pub numbers_of : List ℕ → FinSet nat_cmp
numbers_of words = passing (has_number words) MAX_OBJECTS

-- The lowest bit of a word that is 0 is at this place. (own)
pub record IsLowestZero (word place : ℕ) : Type 0 where
  pub within : place < 64
  pub zero_bit : bit_at word place ≡ 0
  pub ones : (i : ℕ) → i < place → bit_at word i ≡ 1

-- The first word that isn't full is at this place, or there is none and the place is behind all. (own)
pub record IsFirstOpen (words : List ℕ) (place : ℕ) : Type 0 where
  pub within : place ≤ length words
  pub before : (i : ℕ) → i < place → slice_index_or words i 0 ≡ full_word
  pub room : place < length words → slice_index_or words place 0 ≡ full_word → ⊥

-- There are 64 words, a bit for each object number, and the first that isn't full is at this place. (own)
pub record IsWords (words : List ℕ) (place : ℕ) : Type 0 where
  pub many : length words ≡ 64
  pub first : IsFirstOpen words place
