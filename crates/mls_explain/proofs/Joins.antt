-- The join of two labels: the categories of both, and what dominates it and what it dominates.
use Rattle.std.specs.Prelude.{◌≡◌, ℕ, zero, suc, ◌+◌, ◌*◌, ◌/◌, ◌%◌, ◌<◌, ◌≤◌, Bool, true, false, cond, ◌&&◌, ◌||◌, nat_eq, nat_le, nat_lt, List, [], ◌∷◌, bit_or, slice_index, IsTrue, refl}
use Rattle.std.specs.Ordering.{nat_cmp}
use Rattle.std.specs.Cmp.{nat_cmp_total}
use Rattle.std.specs.Cmp.Derive.{both_true}
use Rattle.std.specs.Int.{bit_at}
use Rattle.std.proofs.lemmas.Nat.Bits.{bit_at-lt, bit_at_or}
use Rattle.std.specs.FinSet.{FinSet, contains, is_subset, is_subset-contains, contains-is_subset, nat_cmp-IsAntisymmetric}
use Rattle.std.proofs.Common.{max, ◌⊎◌, inl, inr, arith, sym, ap, ◌∙◌}
use Rattle.std.proofs.lemmas.Bool.{and_parts, cases_lt, lt-ltb, le-ltb, or_cases, or_left, or_right}
use Rattle.std.proofs.lemmas.Bool.Decides.{nat_tests}
use Rattle.mls_facts.specs.Bits.{has_bit, number_of}
use Rattle.mls_facts.specs.Words.{has_bit_in}
use Rattle.mls_facts.proofs.Bits.{bit_at-number_of}
use Rattle.mls_facts.proofs.Each.{each-contains}
use Rattle.mls_facts.proofs.Passing.{contains-passing}
use Rattle.mls_facts.proofs.Words.{place_back, place_within}
use Rattle.mls_labels.specs.CategoryBits.{word_of, categories_in}
use Rattle.mls_labels.specs.Label.{Label, dominates}
use Rattle.mls_explain.specs.Remedy.{HasCategories}

-- what holds of four places holds of each below 4
pub each_place : (P : ℕ → Type 0) → P 0 → P 1 → P 2 → P 3 → (k : ℕ) → k < 4 → P k
each_place P a b c d zero h = a
each_place P a b c d (suc zero) h = b
each_place P a b c d (suc (suc zero)) h = c
each_place P a b c d (suc (suc (suc zero))) h = d
each_place P a b c d (suc (suc (suc (suc k)))) h = absurd (omega (arith, h))

pub quarter : (q : ℕ) → q < 256 → q / 64 < 4
quarter q within = omega arith

one_of : (t : Bool) → nat_eq (cond t 1 0) 1 ≡ t
one_of true = refl
one_of false = refl

word_bit : (s : FinSet nat_cmp) (k i : ℕ) → i < 64 → has_bit (word_of s k) i ≡ contains s (k * 64 + i)
word_bit s k i within = rw (bit_at-number_of (λ j. contains s (k * 64 + j)) 64 i, lt-ltb i 64 within) (one_of (contains s (k * 64 + i)))

or_test : (p q : ℕ) → p < 2 → q < 2 → nat_eq (max p q) 1 ≡ (nat_eq p 1 || nat_eq q 1)
or_test zero zero h k = refl
or_test zero (suc zero) h k = refl
or_test (suc zero) zero h k = refl
or_test (suc zero) (suc zero) h k = refl
or_test (suc (suc p)) q h k = absurd (omega (arith, h))
or_test p (suc (suc q)) h k = absurd (omega (arith, k))

-- a bit of both words
or_bit : (x y i : ℕ) → has_bit (bit_or x y) i ≡ (has_bit x i || has_bit y i)
or_bit x y i = ap (λ m. nat_eq m 1) (bit_at_or x y i) ∙ or_test (bit_at x i) (bit_at y i) (bit_at-lt x i) (bit_at-lt y i)

pub both_tests : (q : ℕ) (p r : Bool) → (q < 256) ⊎ (256 ≤ q) → (q < 256 → p ≡ r) → (nat_lt q 256 && p) ≡ (nat_lt q 256 && r)
both_tests q p r (inl within) same = ap (λ t. nat_lt q 256 && t) (same within)
both_tests q p r (inr past) same = rw (le-ltb q 256 past) refl

-- the words of two sets, bit by bit
abbrev pub words_of_both : FinSet nat_cmp → FinSet nat_cmp → List ℕ
words_of_both a b =
    bit_or (word_of a 0) (word_of b 0) ∷ bit_or (word_of a 1) (word_of b 1) ∷ bit_or (word_of a 2) (word_of b 2)
    ∷ bit_or (word_of a 3) (word_of b 3) ∷ []

pub member : (s : FinSet nat_cmp) (q : ℕ) → has_bit (word_of s (q / 64)) (q % 64) ≡ contains s q
member s q = word_bit s (q / 64) (q % 64) (place_within q) ∙ ap (contains s) (place_back q)

-- the categories of two sets' words are those of either
pub either : (a b : FinSet nat_cmp) (q : ℕ) → contains (categories_in (words_of_both a b)) q ≡ (nat_lt q 256 && (contains a q || contains b q))
either a b q =
    contains-passing (has_bit_in (slice_index (words_of_both a b))) 256 q
    ∙ both_tests q (has_bit_in (slice_index (words_of_both a b)) q) (contains a q || contains b q) (cases_lt q 256) (λ within.
    ap (λ word. has_bit word (q % 64)) (each_place (λ k. slice_index (words_of_both a b) k ≡ bit_or (word_of a k) (word_of b k)) refl refl refl refl (q / 64) (quarter q within))
    ∙ or_bit (word_of a (q / 64)) (word_of b (q / 64)) (q % 64)
    ∙ (λ i. member a q i || member b q i))

module _ (a b j : Label) (high : j.level ≡ max a.level b.level)
    (both : (q : ℕ) → contains j.categories q ≡ (nat_lt q 256 && (contains a.categories q || contains b.categories q))) where
  -- what dominates both dominates their join
  pub join_least : (m : Label) → IsTrue (dominates m a) → IsTrue (dominates m b) → IsTrue (dominates m j)
  join_least m h k =
      let one = and_parts (nat_le a.level m.level) (is_subset a.categories m.categories) h in
      let other = and_parts (nat_le b.level m.level) (is_subset b.categories m.categories) k in
      let level : nat_le j.level m.level ≡ true = grind (arith, nat_tests, high, one.0, other.0) in
      both_true level (contains-is_subset nat_cmp_total j.categories m.categories (λ q there.
      elim (or_cases (contains a.categories q) (contains b.categories q) (and_parts (nat_lt q 256) (contains a.categories q || contains b.categories q) (sym (both q) ∙ there)).1) [
        | inl first ↦ is_subset-contains nat_cmp_total a.categories m.categories one.1 q first
        | inr second ↦ is_subset-contains nat_cmp_total b.categories m.categories other.1 q second
      ]))

  within : (m l : Label) → HasCategories m → IsTrue (dominates m l) → (q : ℕ) → contains l.categories q ≡ true → nat_lt q 256 ≡ true
  within m l few h q there =
      each-contains nat_cmp_total nat_cmp-IsAntisymmetric m.categories (λ n. nat_lt n 256) q few
      (is_subset-contains nat_cmp_total l.categories m.categories (and_parts (nat_le l.level m.level) (is_subset l.categories m.categories) h).1 q there)

  -- the join of two labels of the program dominates both
  pub join_above : (m : Label) → HasCategories m → IsTrue (dominates m a) → IsTrue (dominates m b) → IsTrue (dominates j a) × IsTrue (dominates j b)
  join_above m few h k =
      let low_a : nat_le a.level j.level ≡ true = grind (arith, nat_tests, high) in
      let low_b : nat_le b.level j.level ≡ true = grind (arith, nat_tests, high) in (
        both_true low_a (contains-is_subset nat_cmp_total a.categories j.categories (λ q there.
            both q ∙ both_true (within m a few h q there) (or_left (contains a.categories q) (contains b.categories q) there))),
        both_true low_b (contains-is_subset nat_cmp_total b.categories j.categories (λ q there.
            both q ∙ both_true (within m b few k q there) (or_right (contains a.categories q) (contains b.categories q) there))),
      )
