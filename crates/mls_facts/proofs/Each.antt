-- What passes for each member of a finite set.
use Rattle.std.specs.Prelude.{◌≡◌, Bool, true, false, ◌&&◌, ◌||◌, List, [], ◌∷◌, refl}
use Rattle.std.specs.List.{list_any, list_all}
use Rattle.std.specs.Ordering.{eq_by_cmp, is_eq}
use Rattle.std.specs.declared.cmp.Ordering.{Ordering}
use Rattle.std.specs.Cmp.{IsTotalOrder, tied_itself, Equal-is}
use Rattle.std.specs.FinSet as set
use Rattle.std.specs.FinSet.{FinSet, IsAntisymmetric}
use Rattle.std.proofs.Common.{sym, ap, ◌∙◌}
use Rattle.std.proofs.Math.Bool.{or-true}
use Rattle.mls_facts.specs.Each.{each}
use Rattle.mls_facts.proofs.Passing.{same_tests}

module _ {K : Type 0} (p : K → Bool) where
  one_of_all : (q : K) (e : K → Bool) → ((x : K) → e x ≡ true → q ≡ x) → (xs : List K) → list_all p xs ≡ true → list_any e xs ≡ true → p q ≡ true
  one_of_all q e same [] all one = cc
  one_of_all q e same (x ∷ xs) all one =
      elim (p x) as (λ a. p x ≡ a → (a && list_all p xs) ≡ true → p q ≡ true) [
        | true ↦ λ px rest. elim (e x) as (λ b. e x ≡ b → (b || list_any e xs) ≡ true → p q ≡ true) [
          | true ↦ λ ex _. ap p (same x ex) ∙ px
          | false ↦ λ ex later. one_of_all q e same xs rest later
        ] refl one
        | false ↦ λ px rest. cc
      ] refl all

  all_of_each : (xs : List K) (e : K → K → Bool) → ((x : K) → e x x ≡ true) → ((q : K) → list_any (e q) xs ≡ true → p q ≡ true) → list_all p xs ≡ true
  all_of_each [] e itself known = refl
  all_of_each (x ∷ xs) e itself known =
      let first : p x ≡ true = known x (ap (λ b. b || list_any (e x) xs) (itself x)) in
      let rest : list_all p xs ≡ true = all_of_each xs e itself (λ q one. known q (ap (λ b. e q x || b) one ∙ or-true (e q x))) in
      ap (λ b. b && list_all p xs) first ∙ rest

module _ {K : Type 0} {R : K → K → Ordering} (o : IsTotalOrder R) (exact : IsAntisymmetric R) where
  -- what passes for each member passes for one of them
  pub each-contains : (s : FinSet R) (p : K → Bool) (q : K) → each s p ≡ true → set.contains s q ≡ true → p q ≡ true
  each-contains s p q all there = one_of_all p q (eq_by_cmp R q) (λ x tie. exact q x ((Equal-is (R q x)).0 tie)) (set.items s) all (sym (set.contains-items s q) ∙ there)

  -- what passes for each one passes for all
  pub contains-each : (s : FinSet R) (p : K → Bool) → ((q : K) → set.contains s q ≡ true → p q ≡ true) → each s p ≡ true
  contains-each s p known = all_of_each p (set.items s) (eq_by_cmp R) (λ x. ap is_eq (tied_itself o x)) (λ q one. known q (set.contains-items s q ∙ one))

  -- what passes for each member of a list's set is what passes for all of the list
  pub each-from_list : (p : K → Bool) (ks : List K) → each (set.from_list {R = R} ks) p ≡ list_all p ks
  each-from_list p ks = same_tests _ _
      (λ all. all_of_each p ks (eq_by_cmp R) (λ x. ap is_eq (tied_itself o x)) (λ q one. each-contains (set.from_list ks) p q all (set.contains-from_list o ks q ∙ one)))
      (λ all. contains-each (set.from_list ks) p (λ q there. one_of_all p q (eq_by_cmp R q) (λ x tie. exact q x ((Equal-is (R q x)).0 tie)) ks all (sym (set.contains-from_list o ks q) ∙ there)))
