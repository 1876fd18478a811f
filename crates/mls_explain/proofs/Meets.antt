-- The meet of two labels: the categories that both have, and what dominates it and what it dominates.
use Rattle.std.specs.Prelude.{◌≡◌, ℕ, zero, suc, ◌/◌, ◌%◌, ◌<◌, true, ◌&&◌, nat_eq, nat_le, nat_lt, List, [], ◌∷◌, slice_index, IsTrue, refl}
use Rattle.std.specs.Int.Bits.{bit_and}
use Rattle.std.specs.Ordering.{nat_cmp}
use Rattle.std.specs.Cmp.{nat_cmp_total}
use Rattle.std.specs.Cmp.Derive.{both_true}
use Rattle.std.specs.Int.{bit_at}
use Rattle.std.proofs.lemmas.Nat.Bits.{bit_at-lt, bit_at_and}
use Rattle.std.specs.FinSet.{FinSet, contains, is_subset, is_subset-contains, contains-is_subset, nat_cmp-IsAntisymmetric}
use Rattle.std.proofs.Common.{min, arith, sym, ap, ◌∙◌}
use Rattle.std.proofs.lemmas.Bool.{and_parts, cases_lt}
use Rattle.std.proofs.lemmas.Bool.Decides.{nat_tests}
use Rattle.mls_facts.specs.Bits.{has_bit}
use Rattle.mls_facts.specs.Words.{has_bit_in}
use Rattle.mls_facts.proofs.Each.{each-contains}
use Rattle.mls_facts.proofs.Passing.{contains-passing}
use Rattle.mls_labels.specs.CategoryBits.{word_of, categories_in}
use Rattle.mls_labels.specs.Label.{Label, dominates}
use Rattle.mls_explain.specs.Remedy.{HasCategories}
use Rattle.mls_explain.proofs.Joins.{both_tests, each_place, member, quarter}

and_test : (p q : ℕ) → p < 2 → q < 2 → nat_eq (min p q) 1 ≡ (nat_eq p 1 && nat_eq q 1)
and_test zero zero h k = refl
and_test zero (suc zero) h k = refl
and_test (suc zero) zero h k = refl
and_test (suc zero) (suc zero) h k = refl
and_test (suc (suc p)) q h k = absurd (omega (arith, h))
and_test p (suc (suc q)) h k = absurd (omega (arith, k))

-- a bit that both words have
and_bit : (x y i : ℕ) → has_bit (bit_and x y) i ≡ (has_bit x i && has_bit y i)
and_bit x y i = ap (λ m. nat_eq m 1) (bit_at_and x y i) ∙ and_test (bit_at x i) (bit_at y i) (bit_at-lt x i) (bit_at-lt y i)

-- the words of what two sets share, bit by bit
abbrev pub shared_words : FinSet nat_cmp → FinSet nat_cmp → List ℕ
shared_words a b =
    bit_and (word_of a 0) (word_of b 0) ∷ bit_and (word_of a 1) (word_of b 1) ∷ bit_and (word_of a 2) (word_of b 2)
    ∷ bit_and (word_of a 3) (word_of b 3) ∷ []

-- the categories of those words are those that both sets have
pub both : (a b : FinSet nat_cmp) (q : ℕ) → contains (categories_in (shared_words a b)) q ≡ (nat_lt q 256 && (contains a q && contains b q))
both a b q =
    contains-passing (has_bit_in (slice_index (shared_words a b))) 256 q
    ∙ both_tests q (has_bit_in (slice_index (shared_words a b)) q) (contains a q && contains b q) (cases_lt q 256) (λ within.
    ap (λ word. has_bit word (q % 64)) (each_place (λ k. slice_index (shared_words a b) k ≡ bit_and (word_of a k) (word_of b k)) refl refl refl refl (q / 64) (quarter q within))
    ∙ and_bit (word_of a (q / 64)) (word_of b (q / 64)) (q % 64)
    ∙ (λ i. member a q i && member b q i))

module _ (a b j : Label) (low : j.level ≡ min a.level b.level)
    (all : (q : ℕ) → contains j.categories q ≡ (nat_lt q 256 && (contains a.categories q && contains b.categories q))) where
  shared : (q : ℕ) → contains j.categories q ≡ true → (contains a.categories q ≡ true) × (contains b.categories q ≡ true)
  shared q there =
      and_parts (contains a.categories q) (contains b.categories q)
      (and_parts (nat_lt q 256) (contains a.categories q && contains b.categories q) (sym (all q) ∙ there)).1

  pub meet_first : IsTrue (dominates a j)
  meet_first =
      let level : nat_le j.level a.level ≡ true = grind (arith, nat_tests, low) in
      both_true level (contains-is_subset nat_cmp_total j.categories a.categories (λ q there. (shared q there).0))

  pub meet_second : IsTrue (dominates b j)
  meet_second =
      let level : nat_le j.level b.level ≡ true = grind (arith, nat_tests, low) in
      both_true level (contains-is_subset nat_cmp_total j.categories b.categories (λ q there. (shared q there).1))

  -- what both dominate their meet dominates
  pub meet_greatest : (m : Label) → HasCategories m → IsTrue (dominates a m) → IsTrue (dominates b m) → IsTrue (dominates j m)
  meet_greatest m few h k =
      let one = and_parts (nat_le m.level a.level) (is_subset m.categories a.categories) h in
      let other = and_parts (nat_le m.level b.level) (is_subset m.categories b.categories) k in
      let level : nat_le m.level j.level ≡ true = grind (arith, nat_tests, low, one.0, other.0) in
      both_true level (contains-is_subset nat_cmp_total m.categories j.categories (λ q there.
      all q ∙ both_true (each-contains nat_cmp_total nat_cmp-IsAntisymmetric m.categories (λ n. nat_lt n 256) q few there)
      (both_true (is_subset-contains nat_cmp_total m.categories a.categories one.1 q there) (is_subset-contains nat_cmp_total m.categories b.categories other.1 q there))))
