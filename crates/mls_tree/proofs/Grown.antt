-- A tree with one object more.
use Rattle.std.proofs.Common.{◌≡◌, ℕ, ◌<◌, ◌⊎◌, inl, inr, Bool, true, false, nat_eq, ◌||◌, IsTrue, Some, None, is_some, refl, sym, ap, subst, ◌∙◌, arith}
use Rattle.std.proofs.lemmas.Bool.{cases_eq, ne_eqb}
use Rattle.std.proofs.lemmas.Bool.Decides.{nat_tests}
use Rattle.std.proofs.lemmas.Option.{same_Some}
use Rattle.std.specs.Ordering.{nat_cmp}
use Rattle.std.specs.FinMap as map
use Rattle.std.specs.FinMap.{FinMap}
use Rattle.mls_tables.specs.declared.limits.TheConstants.{MAX_OBJECTS}
use Rattle.mls_tree.specs.Tree.{Reaches, here, up, IsTree, is_active}
use Rattle.mls_facts.proofs.Entries.{at_new, elsewhere, by_number, has-inserted}

module _ (parent : FinMap nat_cmp ℕ) (n p : ℕ) where
  -- a way up stays one where a number without a parent gets one
  Reaches-insert : {o q : ℕ} → map.get parent n ≡ None → Reaches parent o q → Reaches (map.insert parent n p) o q
  Reaches-insert none here = here
  Reaches-insert none (up {o = o} {p = r} {q = q} step rest) = up (from (cases_eq o n)) (Reaches-insert none rest) where
    from : (o ≡ n) ⊎ (o ≡ n → ⊥) → map.get (map.insert parent n p) o ≡ Some r
    from (inl same) = let both : map.get parent n ≡ Some r = rw same at step in cc
    from (inr other) = let test : nat_eq o n ≡ false = grind (arith, nat_tests) in elsewhere parent n p o test ∙ step

pub no_parent : (m : FinMap nat_cmp ℕ) (n : ℕ) → ((p : ℕ) → map.get m n ≡ Some p → ⊥) → map.get m n ≡ None
no_parent m n never = elim (map.get m n) as (λ e. map.get m n ≡ e → e ≡ None) [ None ↦ λ is. refl | Some p ↦ λ is. absurd (never p is) ] refl

module _ (parent : FinMap nat_cmp ℕ) (active : ℕ → Bool) (n p : ℕ) (tree : IsTree parent active) (free : active n ≡ false) where
  -- a number that isn't active has no parent
  is_free : map.get parent n ≡ None
  is_free = no_parent parent n (λ r is. let no : true ≡ false = sym (tree.children_active n r is).0 ∙ free in cc)

  old_number : (o : ℕ) → IsTrue (active o) → nat_eq o n ≡ false
  old_number o is = ne_eqb o n (λ same. let no : true ≡ false = sym is ∙ ap active same ∙ free in cc)

  -- A tree stays one with a number that isn't active below an active object.
  pub IsTree-insert : (grown : ℕ → Bool) → ((o : ℕ) → grown o ≡ (nat_eq o n || active o)) → IsTrue (active p) → n < MAX_OBJECTS → IsTree (map.insert parent n p) grown
  IsTree-insert grown grows below room = record {
    root_active = still 0 tree.root_active;
    root_has_no_parent = elsewhere parent n p 0 (old_number 0 tree.root_active) ∙ tree.root_has_no_parent;
    reaches_root = λ o is. by_number n o (λ q. IsTrue (grown q) → Reaches (map.insert parent n p) q 0)
        (λ _. up (at_new parent n p) (Reaches-insert parent n p is_free (tree.reaches_root p below)))
        (λ other now. Reaches-insert parent n p is_free (tree.reaches_root o (before o other now))) is;
    children_active = λ o q step. by_number n o (λ c. map.get (map.insert parent n p) c ≡ Some q → IsTrue (grown c) × IsTrue (grown q))
        (λ at. (new, subst (λ r. IsTrue (grown r)) (same_Some p q (sym (at_new parent n p) ∙ at)) (still p below)))
        (λ other at. let both = tree.children_active o q (sym (elsewhere parent n p o other) ∙ at) in (still o both.0, still q both.1))
        step;
    below = λ o is. by_number n o (λ q. IsTrue (grown q) → q < MAX_OBJECTS)
        (λ _. room)
        (λ other now. tree.below o (before o other now)) is;
  } where
    still : (o : ℕ) → IsTrue (active o) → IsTrue (grown o)
    still o is = let other : nat_eq o n ≡ false = old_number o is in grows o ∙ (λ i. other i || is i)

    before : (o : ℕ) → nat_eq o n ≡ false → IsTrue (grown o) → IsTrue (active o)
    before o other now = sym (grows o ∙ ap (λ b. b || active o) other) ∙ now

    new : IsTrue (grown n)
    new = let same : nat_eq n n ≡ true = grind (arith, nat_tests) in grows n ∙ ap (λ b. b || active n) same

swapped : (a b c : Bool) → (a || (b || c)) ≡ (b || (a || c))
swapped true true c = refl
swapped true false c = refl
swapped false b c = refl

-- what is active with one object more
pub is_active-insert : (parent : FinMap nat_cmp ℕ) (n p o : ℕ) → is_active (map.insert parent n p) o ≡ (nat_eq o n || is_active parent o)
is_active-insert parent n p o = ap (λ b. nat_eq o 0 || b) (has-inserted parent n p o) ∙ swapped (nat_eq o 0) (nat_eq o n) (map.contains_key parent o)

abbrev pub nobody : FinMap nat_cmp ℕ
nobody = map.empty

pub root_alone : (o : ℕ) → is_active nobody o ≡ true → o ≡ 0
root_alone o is = from (cases_eq o 0) where
  from : (o ≡ 0) ⊎ (o ≡ 0 → ⊥) → o ≡ 0
  from (inl same) = same
  from (inr other) =
      let test : nat_eq o 0 ≡ false = grind (arith, nat_tests) in
      let none : map.get nobody o ≡ None = map.get-empty nat_cmp o in
      let gone : is_active nobody o ≡ false = (λ i. test i || is_some {T = ℕ} (none i)) in cc

-- the tree of the root alone
pub IsTree-root : IsTree map.empty (is_active map.empty)
IsTree-root = record {
  root_active = refl;
  root_has_no_parent = map.get-empty nat_cmp 0;
  reaches_root = λ o is. subst (λ q. Reaches nobody q 0) (sym (root_alone o is)) here;
  children_active = λ o p step. let none : map.get nobody o ≡ None = map.get-empty nat_cmp o in cc;
  below = λ o is. let at : o ≡ 0 = root_alone o is in omega arith;
}
