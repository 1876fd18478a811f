-- Tests of all items of a list, and of all members of a set or children of an object that the list has.
use Rattle.std.proofs.Common.{◌≡◌, ℕ, Bool, true, List, [], ◌∷◌, ◌||◌, ◌⊎◌, inl, inr, refl, sym, ap, subst, ◌∙◌, eqb, Some}
use Rattle.std.specs.List.{list_any, list_all}
use Rattle.std.specs.FinMap as map
use Rattle.std.proofs.lemmas.Bool.{eqb-true, eq-eqb, or_cases, and_parts, and_from, or_right}
use Rattle.mls_tree.specs.Tree as tree
use Rattle.mls_tree.specs.Tree.{children}
use Rattle.mls_tree.proofs.Laws.{is_active-tree, list_any-children, parent_from_child, child_from_parent}
use Rattle.mls_state.specs.State.{State, is_active}
use Rattle.mls_state.specs.Properties.{HasTree}
use Rattle.mls_rules.specs.Levels.{each_child}

module _ {X : Type 0} (p : X → Bool) where
  -- what passes for all items passes for one of them
  pub one_of_all : (q : X) (e : X → Bool) → ((x : X) → e x ≡ true → x ≡ q) → (xs : List X) → list_all p xs ≡ true → list_any e xs ≡ true → p q ≡ true
  one_of_all q e same [] all one = cc
  one_of_all q e same (x ∷ xs) all one = from (or_cases (e x) (list_any e xs) one) (one_of_all q e same xs ((and_parts (p x) (list_all p xs) all).1)) where
    from : (e x ≡ true) ⊎ (list_any e xs ≡ true) → (list_any e xs ≡ true → p q ≡ true) → p q ≡ true
    from (inl here) among = ap p (sym (same x here)) ∙ (and_parts (p x) (list_all p xs) all).0
    from (inr later) among = among later

  -- what passes for each item passes for all
  pub all_of_each : (e : X → X → Bool) → ((x : X) → e x x ≡ true) → (xs : List X) → ((q : X) → list_any (e q) xs ≡ true → p q ≡ true) → list_all p xs ≡ true
  all_of_each e itself [] known = refl
  all_of_each e itself (x ∷ xs) known =
      and_from (p x) (list_all p xs) (known x (ap (λ b. b || list_any (e x) xs) (itself x)))
      (all_of_each e itself xs (λ q later. known q (or_right (e q x) (list_any (e q) xs) later)))

module _ (v : State) (h : HasTree v) where
  by_parents : tree.IsTree v.parent (tree.is_active v.parent)
  by_parents = subst (tree.IsTree v.parent) (λ i o. is_active-tree v.parent (is_active v) h.objects o i) h.objects

  -- the children of an object are those that are listed
  pub listed_child : (c o : ℕ) → map.get v.parent c ≡ Some o → list_any (eqb c) (children v.parent o) ≡ true
  listed_child c o step = list_any-children v.parent by_parents c o ∙ child_from_parent v.parent c o step

  pub child_listed : (c o : ℕ) → list_any (eqb c) (children v.parent o) ≡ true → map.get v.parent c ≡ Some o
  child_listed c o there = parent_from_child v.parent c o (sym (list_any-children v.parent by_parents c o) ∙ there)

  -- what passes for each child passes for one of them
  pub one_of_children : (o : ℕ) (p : ℕ → Bool) → each_child v o p ≡ true → (c : ℕ) → map.get v.parent c ≡ Some o → p c ≡ true
  one_of_children o p all c step = one_of_all p c (eqb c) (λ x is. sym (eqb-true c x is)) (children v.parent o) all (listed_child c o step)

  -- what passes for each one passes for all children
  pub all_of_children : (o : ℕ) (p : ℕ → Bool) → ((c : ℕ) → map.get v.parent c ≡ Some o → p c ≡ true) → each_child v o p ≡ true
  all_of_children o p known = all_of_each p eqb (λ x. eq-eqb x x refl) (children v.parent o) (λ c there. known c (child_listed c o there))
