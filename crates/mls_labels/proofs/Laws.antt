-- What others may know of labels: dominance is a partial order, and the tests of equality are of values.
use Rattle.std.specs.Prelude.{◌≡◌, ◌↔◌, IsTrue, true, ◌&&◌, nat_eq, nat_le, nat_lt}
use Rattle.std.specs.Ordering.{nat_cmp}
use Rattle.std.specs.Cmp.{nat_cmp_total, nat_eq_equiv}
use Rattle.std.specs.Cmp.Derive.{both_true}
use Rattle.std.specs.FinSet.{FinSet, is_subset, is_subset-contains, contains-is_subset, nat_cmp-IsAntisymmetric}
use Rattle.std.proofs.Common.{arith}
use Rattle.std.proofs.lemmas.Bool.{and_parts, eqb-true}
use Rattle.std.proofs.lemmas.Bool.Decides.{nat_tests}
use Rattle.mls_facts.specs.Each.{each}
use Rattle.mls_facts.proofs.Sets.{is_subset-itself, is_same_set-true, is_same_set-itself}
use Rattle.mls_labels.specs.CategoryBits.{categories_in, words_in}
use Rattle.mls_labels.specs.Label.{Label, Bounds, dominates}
use Rattle.mls_labels.specs.Same.{same_categories, same_label, same_bounds}
use Rattle.mls_labels.proofs.CategoryWords.{words_read}

-- a label dominates itself
pub reflexive : (a : Label) → IsTrue (dominates a a)
reflexive a =
    let level : nat_le a.level a.level ≡ true = grind (arith, nat_tests) in
    both_true level (is_subset-itself nat_cmp_total a.categories)

-- what dominates a label that dominates another dominates that one
pub transitive : (a b c : Label) → IsTrue (dominates a b) → IsTrue (dominates b c) → IsTrue (dominates a c)
transitive a b c h k =
    let upper = and_parts (nat_le b.level a.level) (is_subset b.categories a.categories) h in
    let lower = and_parts (nat_le c.level b.level) (is_subset c.categories b.categories) k in
    let level : nat_le c.level a.level ≡ true = grind (arith, nat_tests, upper.0, lower.0) in
    both_true level
    (contains-is_subset nat_cmp_total c.categories a.categories (λ q there.
    is_subset-contains nat_cmp_total b.categories a.categories upper.1 q (is_subset-contains nat_cmp_total c.categories b.categories lower.1 q there)))

-- labels that dominate each other are one
pub antisymmetric : (a b : Label) → IsTrue (dominates a b) → IsTrue (dominates b a) → a ≡ b
antisymmetric a b h k =
    let down = and_parts (nat_le b.level a.level) (is_subset b.categories a.categories) h in
    let up = and_parts (nat_le a.level b.level) (is_subset a.categories b.categories) k in
    let level : a.level ≡ b.level = grind (arith, nat_tests, down.0, up.0) in
    let categories : a.categories ≡ b.categories = is_same_set-true nat_cmp_total nat_cmp-IsAntisymmetric a.categories b.categories (both_true up.1 down.1) in
    λ i. record { level = level i; categories = categories i }

-- labels dominate each other exactly where they are one
pub each_other : (a b : Label) → (IsTrue (dominates a b) × IsTrue (dominates b a)) ↔ (a ≡ b)
each_other a b = (λ h. antisymmetric a b h.0 h.1, λ e. rw e (reflexive b, reflexive b))

-- sets of categories are the same exactly where they are one
pub sets_same : (s t : FinSet nat_cmp) → IsTrue (same_categories s t) ↔ (s ≡ t)
sets_same s t = (is_same_set-true nat_cmp_total nat_cmp-IsAntisymmetric s t, λ e. rw e (is_same_set-itself nat_cmp_total t))

-- labels are the same exactly where they are one
pub labels_same : (a b : Label) → IsTrue (same_label a b) ↔ (a ≡ b)
labels_same a b = (
  λ h. let parts = and_parts (nat_eq a.level b.level) (same_categories a.categories b.categories) h in
      λ i. record { level = eqb-true a.level b.level parts.0 i; categories = is_same_set-true nat_cmp_total nat_cmp-IsAntisymmetric a.categories b.categories parts.1 i },
  λ e. rw e (λ i. nat_eq_equiv.refl b.level i && is_same_set-itself nat_cmp_total b.categories i),
)

-- bounds are the same exactly where they are one
pub bounds_same : (a b : Bounds) → IsTrue (same_bounds a b) ↔ (a ≡ b)
bounds_same a b = (
  λ h. let parts = and_parts (nat_eq a.levels b.levels) (nat_eq a.categories b.categories) h in
      λ i. record { levels = eqb-true a.levels b.levels parts.0 i; categories = eqb-true a.categories b.categories parts.1 i },
  λ e. rw e (λ i. nat_eq_equiv.refl b.levels i && nat_eq_equiv.refl b.categories i),
)

-- the words of a set of categories stand for that set
pub categories_back : (s : FinSet nat_cmp) → IsTrue (each s (λ n. nat_lt n 256)) → categories_in (words_in s) ≡ s
categories_back = words_read
