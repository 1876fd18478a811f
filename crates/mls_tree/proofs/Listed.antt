-- What the lists of children and of inferiors have.
use Rattle.std.proofs.Common.{◌≡◌, ℕ, ◌<◌, ◌≤◌, ◌⊎◌, inl, inr, Bool, true, false, ◌&&◌, ◌||◌, eqb, ltb, length, filter, Option, Some, None, refl, sym, ap, ◌∙◌, arith}
use Rattle.std.proofs.Math.Bool.{and-true, and-false, or-false}
use Rattle.std.proofs.lemmas.Bool.{cases_eq, eqb-true, eq-eqb, ne_eqb, lt-ltb}
use Rattle.std.proofs.lemmas.List.FromFn.{length-range_with_len}
use Rattle.std.specs.Cmp.{nat_eq_equiv}
use Rattle.std.specs.List.{range_with_len, list_any}
use Rattle.std.specs.List.Sorted.{IsStrictlyIncreasing}
use Rattle.std.specs.Ordering.{nat_cmp}
use Rattle.std.specs.FinMap as map
use Rattle.std.specs.FinMap.{FinMap}
use Rattle.mls_facts.specs.Numbered.{holds_of}
use Rattle.mls_facts.proofs.Entries.{at_new, elsewhere}
use Rattle.mls_facts.proofs.Increasing.{IsStrictlyIncreasing-filter_range}
use Rattle.mls_facts.proofs.Lists.{length-filter-le}
use Rattle.mls_facts.proofs.Ranges.{list_any-filter_range}
use Rattle.mls_tables.specs.declared.limits.TheConstants.{MAX_OBJECTS}
use Rattle.mls_tables.specs.Rows.{listed}
use Rattle.mls_tree.specs.Tree.{IsTree, is_active, is_child, is_inferior, children, inferiors}
use Rattle.mls_tree.proofs.Inferiors.{inferior_small}

-- Where an object is a child of another, the other is its parent.
pub parent_from_child : (parent : FinMap nat_cmp ℕ) (c o : ℕ) → is_child parent c o ≡ true → map.get parent c ≡ Some o
parent_from_child parent c o h = from (map.get parent c) h where
  from : (e : Option ℕ) → holds_of (λ p. eqb p o) e ≡ true → e ≡ Some o
  from None h = cc
  from (Some p) h = ap Some (eqb-true p o h)

-- And the other way round.
pub child_from_parent : (parent : FinMap nat_cmp ℕ) (c o : ℕ) → map.get parent c ≡ Some o → is_child parent c o ≡ true
child_from_parent parent c o h = ap (holds_of (λ p. eqb p o)) h ∙ eq-eqb o o refl

-- a number below n is listed exactly where it holds_of
covers : (p : ℕ → Bool) (n x : ℕ) → (p x ≡ true → x < n) → list_any (eqb x) (filter p (range_with_len 0 n)) ≡ p x
covers p n x below = list_any-filter_range p x n ∙ covered (p x) (ltb x n) (λ is. lt-ltb x n (below is)) where
  covered : (a b : Bool) → (a ≡ true → b ≡ true) → (a && b) ≡ a
  covered true b h = h refl
  covered false b h = refl

module _ (parent : FinMap nat_cmp ℕ) (tree : IsTree parent (is_active parent)) where
  -- The children of an object are those whose parent it is.
  pub list_any-children : (c o : ℕ) → list_any (eqb c) (children parent o) ≡ is_child parent c o
  unfolding listed
  list_any-children c o = covers (λ x. is_child parent x o) MAX_OBJECTS c (λ is. tree.below c (tree.children_active c o (parent_from_child parent c o is)).0)

  -- The inferiors of an object are those that are listed.
  pub list_any-inferiors : (x o : ℕ) → list_any (eqb x) (inferiors parent o) ≡ is_inferior parent x o
  unfolding listed
  list_any-inferiors x o = covers (λ y. is_inferior parent y o) MAX_OBJECTS x (λ is. inferior_small parent (is_active parent) tree x o is)

pub IsStrictlyIncreasing-listed : (p : ℕ → Bool) (n : ℕ) → IsStrictlyIncreasing (listed p n)
unfolding listed
IsStrictlyIncreasing-listed p n = IsStrictlyIncreasing-filter_range p 0 n

pub IsStrictlyIncreasing-children : (parent : FinMap nat_cmp ℕ) (o : ℕ) → IsStrictlyIncreasing (children parent o)
IsStrictlyIncreasing-children parent o = IsStrictlyIncreasing-listed (λ c. is_child parent c o) MAX_OBJECTS

pub IsStrictlyIncreasing-inferiors : (parent : FinMap nat_cmp ℕ) (o : ℕ) → IsStrictlyIncreasing (inferiors parent o)
IsStrictlyIncreasing-inferiors parent o = IsStrictlyIncreasing-listed (λ x. is_inferior parent x o) MAX_OBJECTS

-- an object has no more children than there are numbers
pub length-children : (parent : FinMap nat_cmp ℕ) (o : ℕ) → length (children parent o) ≤ MAX_OBJECTS
unfolding listed
length-children parent o =
    let few = length-filter-le (λ c. is_child parent c o) (range_with_len 0 MAX_OBJECTS) in
    let long : length (range_with_len 0 MAX_OBJECTS) ≡ MAX_OBJECTS = length-range_with_len 0 MAX_OBJECTS in
    omega (arith, few, long)

-- whose child is what, with one object more
pub child_insert : (parent : FinMap nat_cmp ℕ) (n p c o : ℕ) → map.get parent n ≡ None → is_child (map.insert parent n p) c o ≡ ((eqb o p && eqb c n) || is_child parent c o)
child_insert parent n p c o free = from (cases_eq c n) where
  from : (c ≡ n) ⊎ (c ≡ n → ⊥) → is_child (map.insert parent n p) c o ≡ ((eqb o p && eqb c n) || is_child parent c o)
  from (inl same) =
      ap (holds_of (λ q. eqb q o)) (ap (map.get (map.insert parent n p)) same ∙ at_new parent n p) ∙ nat_eq_equiv.symm p o
      ∙ sym (and-true (eqb o p)) ∙ ap (λ b. eqb o p && b) (sym (eq-eqb c n same)) ∙ sym (or-false (eqb o p && eqb c n))
      ∙ ap (λ b. (eqb o p && eqb c n) || b) (sym (ap (holds_of (λ q. eqb q o)) (ap (map.get parent) same ∙ free)))
  from (inr other) =
      ap (holds_of (λ q. eqb q o)) (elsewhere parent n p c (ne_eqb c n other))
      ∙ sym (ap (λ b. b || is_child parent c o) (ap (λ b. eqb o p && b) (ne_eqb c n other) ∙ and-false (eqb o p)))
