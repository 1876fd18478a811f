-- How the bits of four words of 64 bits stand for a set of category numbers.
use Rattle.std.specs.Prelude.{◌≡◌, ℕ, zero, suc, ◌+◌, ◌*◌, ◌^◌, ◌<◌, ◌-◌, Bool, ◌&&◌, ◌||◌, nat_eq, nat_le, nat_lt}
use Rattle.std.specs.Prelude.{List, [], ◌∷◌, slice_index}
use Rattle.std.specs.Ordering.{nat_cmp}
use Rattle.std.specs.FinSet.{FinSet, contains}
use Rattle.mls_facts.specs.Bits.{number_of}
use Rattle.mls_facts.specs.Passing.{passing}
use Rattle.mls_facts.specs.Words.{has_bit_in}
use Rattle.mls_labels.specs.declared.limits.TheConstants.{MAX_CATEGORIES}
use Rattle.mls_labels.specs.declared.words.Words.{Words}

-- The word in a place, counted from 0; none stands behind the fourth. (own)
abbrev pub word_at : Words → ℕ → ℕ
word_at w zero = w.first
word_at w (suc zero) = w.second
word_at w (suc (suc zero)) = w.third
word_at w (suc (suc (suc zero))) = w.fourth
word_at w (suc (suc (suc (suc k)))) = 0

-- Four words with another in one place. (own)
abbrev pub put : Words → ℕ → ℕ → Words
put w zero word = record w { first = word }
put w (suc zero) word = record w { second = word }
put w (suc (suc zero)) word = record w { third = word }
put w (suc (suc (suc zero))) word = record w { fourth = word }
put w (suc (suc (suc (suc k)))) word = w

-- Each of the words has 64 bits. (own)
pub record AreWide (w : Words) : Type 0 where
  pub first : w.first < 2 ^ 64
  pub second : w.second < 2 ^ 64
  pub third : w.third < 2 ^ 64
  pub fourth : w.fourth < 2 ^ 64

-- The set of the categories whose bits are 1: category n has bit n % 64 of word n / 64. (own)
abbrev pub categories_of : Words → FinSet nat_cmp
categories_of w = passing (has_bit_in (word_at w)) MAX_CATEGORIES

-- The word in a place that a set of categories has. (own)
abbrev pub word_of : FinSet nat_cmp → ℕ → ℕ
word_of s k = number_of (λ i. contains s (k * 64 + i)) 64

-- The words of a set of categories. (own)
abbrev pub words_of : FinSet nat_cmp → Words
words_of s = record { first = word_of s 0; second = word_of s 1; third = word_of s 2; fourth = word_of s 3 }

-- The categories of four words in a list. (own)
abbrev pub categories_in : List ℕ → FinSet nat_cmp
categories_in words = passing (has_bit_in (slice_index words)) MAX_CATEGORIES

-- The four words of a set of categories, in a list. (own)
abbrev pub words_in : FinSet nat_cmp → List ℕ
words_in s = word_of s 0 ∷ word_of s 1 ∷ word_of s 2 ∷ word_of s 3 ∷ []

-- Whether the bits of a word that are 1 are among its lowest ones, so many. (own)
abbrev pub is_word_below : ℕ → ℕ → Bool
is_word_below word count = nat_le 64 count || nat_lt word (2 ^ count)

-- Whether the categories of four words are all less than n. (own)
abbrev pub are_below : Words → ℕ → Bool
are_below w n =
    is_word_below w.first n && is_word_below w.second (n - 64) && is_word_below w.third (n - 128)
    && is_word_below w.fourth (n - 192)

-- Whether four words are the same as four others. (own)
abbrev pub are_same : Words → Words → Bool
are_same a b = nat_eq a.first b.first && nat_eq a.second b.second && nat_eq a.third b.third && nat_eq a.fourth b.fourth

-- The word in this place is the first that isn't 0. (own)
pub record IsFirst (w : Words) (k : ℕ) : Type 0 where
  pub within : k < 4
  pub some : 0 < word_at w k
  pub before : (j : ℕ) → j < k → word_at w j ≡ 0
