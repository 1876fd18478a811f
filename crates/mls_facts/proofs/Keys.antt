-- The keys of some bits, and the bits of some keys.
use Rattle.std.specs.Prelude.{◌≡◌, ℕ, zero, suc, ◌+◌, ◌*◌, ◌^◌, ◌<◌, Bool, true, false, cond, ◌&&◌, nat_eq, List, [], ◌∷◌, map, refl}
use Rattle.std.specs.List.{list_any, list_all, sum_by}
use Rattle.std.specs.Ordering.{nat_cmp, on}
use Rattle.std.specs.Cmp.{IsTotalOrder, nat_cmp_total, on_total, unsigned_tied}
use Rattle.std.specs.FinSet as set
use Rattle.std.specs.FinSet.{nat_cmp-IsAntisymmetric}
use Rattle.std.proofs.Common.{arith, sym, ap, ◌∙◌}
use Rattle.std.proofs.Math.Bool.{and-true}
use Rattle.std.proofs.lemmas.Bool.{and_parts}
use Rattle.std.proofs.lemmas.List.Sums.{sum_by-cons}
use Rattle.mls_facts.specs.Bits.{has_bit, number_of}
use Rattle.mls_facts.specs.Keys.{keys_of_bits, bits_of_keys, down_from}
use Rattle.mls_facts.proofs.Bits.{number_of-has_bit}
use Rattle.mls_facts.proofs.Sets.{contains-from_list-filter}

module _ {K : Type 0} (number : K → ℕ) where
  pub keys_total : IsTotalOrder (on number nat_cmp)
  keys_total = on_total number nat_cmp_total

  -- whether a list has a key of this key's number
  abbrev pub lists : List K → K → Bool
  lists keys x = list_any (λ y. nat_eq (number x) (number y)) keys

  -- a key of the list is among the keys of some bits where its bit is 1
  pub contains-keys_of_bits : (keys : List K) (b : ℕ) (x : K) → lists keys x ≡ true → set.contains (keys_of_bits number keys b) x ≡ has_bit b (number x)
  unfolding keys_of_bits
  contains-keys_of_bits keys b x there =
      contains-from_list-filter keys_total (λ y. has_bit b (number y)) keys x (λ y tie. ap (has_bit b) (sym (nat_cmp-IsAntisymmetric (number x) (number y) tie)))
      ∙ ap (λ c. has_bit b (number x) && c) (set.contains-from_list keys_total keys x ∙ ap (λ p. list_any p keys) (λ i y. unsigned_tied (number x) (number y) i) ∙ there)
      ∙ and-true (has_bit b (number x))

  -- the bits of the keys of some bits, over a part of the list
  bits_of_part : (keys part : List K) (b : ℕ) → list_all (lists keys) part ≡ true → sum_by (λ x. cond (set.contains (keys_of_bits number keys b) x) (2 ^ number x) 0) part ≡ sum_by (λ k. cond (has_bit b k) (2 ^ k) 0) (map number part)
  bits_of_part keys [] b all = refl
  bits_of_part keys (x ∷ part) b all =
      let parts = and_parts (lists keys x) (list_all (lists keys) part) all in
      sum_by-cons (λ y. cond (set.contains (keys_of_bits number keys b) y) (2 ^ number y) 0) x part
      ∙ (λ i. cond (contains-keys_of_bits keys b x parts.0 i) (2 ^ number x) 0 + bits_of_part keys part b parts.1 i)
      ∙ sym (sum_by-cons (λ k. cond (has_bit b k) (2 ^ k) 0) (number x) (map number part))

  one_times : (b : Bool) (k : ℕ) → cond b k 0 ≡ cond b 1 0 * k
  one_times true k = omega arith
  one_times false k = omega arith

  sum_of_bits : (p : ℕ → Bool) (n : ℕ) → sum_by (λ k. cond (p k) (2 ^ k) 0) (down_from n) ≡ number_of p n
  unfolding number_of
  sum_of_bits p zero = refl
  sum_of_bits p (suc n) = sum_by-cons (λ k. cond (p k) (2 ^ k) 0) n (down_from n) ∙ (λ i. one_times (p n) (2 ^ n) i + sum_of_bits p n i)

  -- the bits of the keys of some bits are those bits, where the numbers of the keys are all those below n
  pub bits_of_keys-keys_of_bits : (keys : List K) (n b : ℕ) → list_all (lists keys) keys ≡ true → map number keys ≡ down_from n → b < 2 ^ n → bits_of_keys number keys (keys_of_bits number keys b) ≡ b
  unfolding bits_of_keys
  bits_of_keys-keys_of_bits keys n b all numbers small =
      bits_of_part keys keys b all ∙ ap (sum_by (λ k. cond (has_bit b k) (2 ^ k) 0)) numbers ∙ sum_of_bits (has_bit b) n ∙ number_of-has_bit n b small
