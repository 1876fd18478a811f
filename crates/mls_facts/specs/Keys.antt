-- Sets of numbered keys, and the bits that stand for them: a key has the bit of its number.
use Rattle.std.specs.Prelude.{ℕ, zero, suc, ◌^◌, cond, List, [], ◌∷◌, filter}
use Rattle.std.specs.List.{sum_by}
use Rattle.std.specs.Ordering.{nat_cmp, on}
use Rattle.std.specs.FinSet as set
use Rattle.std.specs.FinSet.{FinSet}
use Rattle.mls_facts.specs.Bits.{has_bit}

-- Of a list of keys, the set of those whose bits are 1. (own)
unfoldable pub keys_of_bits : {K : Type 0} (number : K → ℕ) → List K → ℕ → FinSet (on number nat_cmp)
keys_of_bits number keys bits = set.from_list (filter (λ x. has_bit bits (number x)) keys)

-- The number whose bits are 1 at the keys of a list that are in a set. (own)
unfoldable pub bits_of_keys : {K : Type 0} (number : K → ℕ) → List K → FinSet (on number nat_cmp) → ℕ
bits_of_keys number keys s = sum_by (λ x. cond (set.contains s x) (2 ^ number x) 0) keys

-- The numbers below n, from the largest down. (own)
abbrev pub down_from : ℕ → List ℕ
down_from zero = []
down_from (suc n) = n ∷ down_from n
