-- Which numbers are among those that pass a test.
use Rattle.std.specs.Prelude.{◌≡◌, ℕ, zero, suc, ◌<◌, Bool, true, false, cond, ◌&&◌, ◌||◌, nat_eq, nat_lt, refl}
use Rattle.std.specs.Ordering.{nat_cmp}
use Rattle.std.specs.Cmp.{nat_cmp_total, unsigned_tied}
use Rattle.std.specs.FinSet.{FinSet, contains, insert, contains-empty, contains-insert}
use Rattle.std.proofs.Common.{arith, sym, ◌∙◌, ap}
use Rattle.std.proofs.lemmas.Bool.Decides.{nat_tests}
use Rattle.mls_facts.specs.Passing.{passing}

next_true : (t : Bool) (p : ℕ → Bool) (n q : ℕ) (c : Bool) → nat_eq q n ≡ t → p n ≡ true → c ≡ (nat_lt q n && p q) → (t || c) ≡ (nat_lt q (suc n) && p q)
next_true true p n q c is e h = let same : q ≡ n = grind (arith, nat_tests, is) in rw same (grind (arith, nat_tests, e))
next_true false p n q c is e h = grind (arith, nat_tests, is, h)

next_false : (t : Bool) (p : ℕ → Bool) (n q : ℕ) → nat_eq q n ≡ t → p n ≡ false → (nat_lt q n && p q) ≡ (nat_lt q (suc n) && p q)
next_false true p n q is e = let same : q ≡ n = grind (arith, nat_tests, is) in rw same (grind (arith, nat_tests, e))
next_false false p n q is e = grind (arith, nat_tests, is)

pub none_below_zero : (p : ℕ → Bool) (q : ℕ) → (nat_lt q 0 && p q) ≡ false
none_below_zero p q = let none : nat_lt q 0 ≡ false = grind (arith, nat_tests) in ap (λ b. b && p q) none

in_passing : (b : Bool) (p : ℕ → Bool) (n q : ℕ) (s : FinSet nat_cmp) → p n ≡ b → contains s q ≡ (nat_lt q n && p q) → contains (cond b (insert s n) s) q ≡ (nat_lt q (suc n) && p q)
in_passing true p n q s e h = contains-insert nat_cmp_total s n q ∙ ap (λ b. b || contains s q) (unsigned_tied q n) ∙ next_true (nat_eq q n) p n q (contains s q) refl e h
in_passing false p n q s e h = h ∙ next_false (nat_eq q n) p n q refl e

pub contains-passing : (p : ℕ → Bool) (n q : ℕ) → contains (passing p n) q ≡ (nat_lt q n && p q)
unfolding passing
contains-passing p zero q = contains-empty nat_cmp q ∙ sym (none_below_zero p q)
contains-passing p (suc n) q = in_passing (p n) p n q (passing p n) refl (contains-passing p n q)

pub true_below : (i n : ℕ) → i < n → nat_lt i n ≡ true
true_below i n h = grind (arith, nat_tests)

-- two tests are equal where each is true where the other is
pub same_tests : (x y : Bool) → (x ≡ true → y ≡ true) → (y ≡ true → x ≡ true) → x ≡ y
same_tests true y there back = sym (there refl)
same_tests false true there back = back refl
same_tests false false there back = refl
