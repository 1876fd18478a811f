-- Bits in words of 64, one word after the other.
use Rattle.std.specs.Prelude.{ℕ, Bool, ◌/◌, ◌%◌}
use Rattle.mls_facts.specs.Bits.{has_bit}

-- Whether bit n is 1 of words that follow each other: bit n % 64 of word n / 64. (own)
abbrev pub has_bit_in : (ℕ → ℕ) → ℕ → Bool
has_bit_in word n = has_bit (word (n / 64)) (n % 64)
