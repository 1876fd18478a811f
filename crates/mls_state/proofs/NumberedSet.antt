-- A list seen as a map from places, as one item is replaced.
use Rattle.std.proofs.Common.{◌≡◌, ℕ, zero, suc, ◌<◌, Bool, true, false, cond, List, [], ◌∷◌, length, Some, refl, sym, ap, ◌∙◌, set, nat_eq, arith}
use Rattle.std.specs.Prelude.{slice_get, option_and_then, nat_lt, ◌&&◌}
use Rattle.std.specs.Cmp.{nat_cmp_total, unsigned_tied}
use Rattle.std.specs.FinMap as map
use Rattle.std.specs.FinMap.{nat_cmp-IsAntisymmetric}
use Rattle.std.specs.FinSet as finset
use Rattle.std.proofs.lemmas.Bool.Decides.{nat_tests}
use Rattle.std.proofs.lemmas.List.{length-set}
use Rattle.mls_facts.proofs.Passing.{contains-passing}
use Rattle.mls_facts.specs.Numbered.{numbered, holds_of, places_of}
use Rattle.mls_facts.proofs.Numbered.{get-numbered}

module _ {A : Type 0} where
  -- what stands at a place after one item is replaced
  pub slice_get-set : (items : List A) (n : ℕ) (a : A) (q : ℕ) → n < length items → slice_get (set items n a) q ≡ cond (nat_eq q n) (Some a) (slice_get items q)
  slice_get-set [] n a q within = absurd (omega arith)
  slice_get-set (x ∷ items) zero a zero within = refl
  slice_get-set (x ∷ items) zero a (suc q) within = let other : nat_eq (suc q) 0 ≡ false = grind (arith, nat_tests) in rw other refl
  slice_get-set (x ∷ items) (suc n) a zero within = let other : nat_eq 0 (suc n) ≡ false = grind (arith, nat_tests) in rw other refl
  slice_get-set (x ∷ items) (suc n) a (suc q) within =
      let next : nat_eq (suc q) (suc n) ≡ nat_eq q n = grind (arith, nat_tests) in
      let inside : n < length items = omega arith in
      rw next (slice_get-set items n a q inside)

  -- what a field of the items is at a place after one item is replaced
  field-set : {X : Type 0} (f : A → X) (items : List A) (n : ℕ) (a : A) (q : ℕ) → n < length items
      → option_and_then (λ x. Some (f x)) (slice_get (set items n a) q) ≡ cond (nat_eq q n) (Some (f a)) (option_and_then (λ x. Some (f x)) (slice_get items q))
  field-set f items n a q within = ap (option_and_then (λ x. Some (f x))) (slice_get-set items n a q within) ∙ from (nat_eq q n) where
    from : (b : Bool) → option_and_then (λ x. Some (f x)) (cond b (Some a) (slice_get items q)) ≡ cond b (Some (f a)) (option_and_then (λ x. Some (f x)) (slice_get items q))
    from true = refl
    from false = refl

  -- to replace an item is to enter its field again
  pub numbered-set : {X : Type 0} (f : A → X) (items : List A) (n : ℕ) (a : A) → n < length items
      → numbered (λ x. Some (f x)) (set items n a) ≡ map.insert (numbered (λ x. Some (f x)) items) n (f a)
  numbered-set f items n a within = map.same_map nat_cmp_total nat_cmp-IsAntisymmetric _ _ (λ q.
      get-numbered (λ x. Some (f x)) (set items n a) q ∙ field-set f items n a q within
      ∙ sym (map.get-insert nat_cmp_total (numbered (λ x. Some (f x)) items) n (f a) q
      ∙ (λ i. cond (unsigned_tied q n i) (Some (f a)) (get-numbered (λ x. Some (f x)) items q i))))

  field-kept : {X : Type 0} (f : A → X) (items : List A) (n : ℕ) (a b : A) (q : ℕ) → n < length items → slice_get items n ≡ Some b → f a ≡ f b
      → option_and_then (λ x. Some (f x)) (slice_get (set items n a) q) ≡ option_and_then (λ x. Some (f x)) (slice_get items q)
  field-kept f items n a b q within was same = field-set f items n a q within ∙ from (nat_eq q n) refl where
    from : (t : Bool) → nat_eq q n ≡ t → cond t (Some (f a)) (option_and_then (λ x. Some (f x)) (slice_get items q)) ≡ option_and_then (λ x. Some (f x)) (slice_get items q)
    from true is = let at : q ≡ n = grind (arith, nat_tests, is) in ap Some same ∙ sym (ap (λ k. option_and_then (λ x. Some (f x)) (slice_get items k)) at ∙ ap (option_and_then (λ x. Some (f x))) was)
    from false is = refl

  -- a field that the new item has as the old one had it is as it was
  pub numbered-kept : {X : Type 0} (f : A → X) (items : List A) (n : ℕ) (a b : A) → n < length items → slice_get items n ≡ Some b → f a ≡ f b
      → numbered (λ x. Some (f x)) (set items n a) ≡ numbered (λ x. Some (f x)) items
  numbered-kept f items n a b within was same = map.same_map nat_cmp_total nat_cmp-IsAntisymmetric _ _ (λ q.
      get-numbered (λ x. Some (f x)) (set items n a) q ∙ field-kept f items n a b q within was same ∙ sym (get-numbered (λ x. Some (f x)) items q))

  -- and so are the places whose items pass a test
  pub places-kept : (test : A → Bool) (items : List A) (n : ℕ) (a b : A) → n < length items → slice_get items n ≡ Some b → test a ≡ test b
      → places_of test (set items n a) ≡ places_of test items
  places-kept test items n a b within was same =
      finset.same_set nat_cmp_total nat_cmp-IsAntisymmetric _ _ (λ q.
      contains-passing (λ k. holds_of test (slice_get (set items n a) k)) (length (set items n a)) q
      ∙ (λ i. nat_lt q (length-set items n a i) && passes q i)
      ∙ sym (contains-passing (λ k. holds_of test (slice_get items k)) (length items) q)) where
        passes : (q : ℕ) → holds_of test (slice_get (set items n a) q) ≡ holds_of test (slice_get items q)
        passes q = ap (holds_of test) (slice_get-set items n a q within) ∙ from (nat_eq q n) refl where
          from : (t : Bool) → nat_eq q n ≡ t → holds_of test (cond t (Some a) (slice_get items q)) ≡ holds_of test (slice_get items q)
          from true is = let at : q ≡ n = grind (arith, nat_tests, is) in same ∙ sym (ap (λ k. holds_of test (slice_get items k)) at ∙ ap (holds_of test) was)
          from false is = refl
