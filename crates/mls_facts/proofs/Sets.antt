-- Finite sets: those that contain each other are equal, those made of lists, and inserts of what is there.
use Rattle.std.specs.Prelude.{◌≡◌, Bool, true, false, ◌&&◌, refl, ◌||◌, List, filter}
use Rattle.std.specs.declared.cmp.Ordering.{Ordering}
use Rattle.std.specs.Cmp.{IsEquivalence, IsTotalOrder, both_ways, Equal-is}
use Rattle.std.specs.FinSet.{FinSet, IsAntisymmetric, is_subset, contains, same_set, is_subset-contains, contains-is_subset}
use Rattle.std.proofs.Common.{ap, sym, ◌∙◌}
use Rattle.std.proofs.Math.Bool.{and_comm}
use Rattle.std.proofs.lemmas.Bool.{and_parts}
use Rattle.mls_facts.specs.Sets.{is_same_set}
use Rattle.std.specs.Ordering.{eq_by_cmp}
use Rattle.std.specs.declared.cmp.Ordering.TheVariants.{Equal}
use Rattle.std.proofs.lemmas.Map.Views.{any-filter_same}
use Rattle.std.specs.FinSet as set

module _ {K : Type 0} {R : K → K → Ordering} (o : IsTotalOrder R) where
  -- a set contains itself
  pub is_subset-itself : (s : FinSet R) → is_subset s s ≡ true
  is_subset-itself s = contains-is_subset o s s (λ q h. h)

  -- a set is the same as itself
  pub is_same_set-itself : (s : FinSet R) → is_same_set s s ≡ true
  is_same_set-itself s = (λ i. is_subset-itself s i && is_subset-itself s i)

module _ {K : Type 0} {R : K → K → Ordering} (o : IsTotalOrder R) (exact : IsAntisymmetric R) where
  -- sets that are the same are equal
  pub is_same_set-true : (s t : FinSet R) → is_same_set s t ≡ true → s ≡ t
  is_same_set-true s t h =
      let parts = and_parts (is_subset s t) (is_subset t s) h in
      same_set o exact s t (λ q. both_ways (contains s q) (contains t q) (is_subset-contains o s t parts.0 q) (is_subset-contains o t s parts.1 q))

  -- the test is an equivalence
  pub is_same_set_laws : IsEquivalence (is_same_set {R = R})
  is_same_set_laws = record {
    refl = is_same_set-itself o;
    symm = λ s t. and_comm (is_subset s t) (is_subset t s);
    congr = λ s t u h. ap (λ r. is_same_set r u) (is_same_set-true s t h);
  }

module _ {K : Type 0} {R : K → K → Ordering} (o : IsTotalOrder R) where
  -- a key is in the set of the keys of a list that pass a test where it is in the set of the list and passes
  pub contains-from_list-filter : (p : K → Bool) (ks : List K) (q : K) → ((x : K) → R q x ≡ Equal → p x ≡ p q) → set.contains (set.from_list {R = R} (filter p ks)) q ≡ (p q && set.contains (set.from_list {R = R} ks) q)
  contains-from_list-filter p ks q alike =
      set.contains-from_list o (filter p ks) q
      ∙ any-filter_same (eq_by_cmp R q) p (p q) (λ x tie. alike x ((Equal-is (R q x)).0 tie)) ks
      ∙ ap (λ b. p q && b) (sym (set.contains-from_list o ks q))

  module _ (exact : IsAntisymmetric R) where
    -- the set of the keys of a list that pass a test is what the set of the list retains by it
    pub from_list-filter : (p : K → Bool) (ks : List K) → set.from_list {R = R} (filter p ks) ≡ set.retain (set.from_list {R = R} ks) p
    from_list-filter p ks = set.same_set o exact _ _ (λ q.
        let alike : (x : K) → R q x ≡ Equal → p x ≡ p q = λ x tie. ap p (sym (exact q x tie)) in
        contains-from_list-filter p ks q alike ∙ and_comm (p q) (set.contains (set.from_list {R = R} ks) q) ∙ sym (set.contains-retain (set.from_list ks) p q alike))

    -- to insert a key that is there changes nothing
    pub insert-known : (s : FinSet R) (k : K) → set.contains s k ≡ true → set.insert s k ≡ s
    insert-known s k there = set.same_set o exact _ _ (λ q.
        set.contains-insert o s k q ∙ or_known (eq_by_cmp R q k) (set.contains s q) (λ tie. ap (set.contains s) (exact q k ((Equal-is (R q k)).0 tie)) ∙ there)) where
          or_known : (e c : Bool) → (e ≡ true → c ≡ true) → (e || c) ≡ c
          or_known true c known = sym (known refl)
          or_known false c known = refl
