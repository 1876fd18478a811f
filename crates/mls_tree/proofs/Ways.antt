-- Ways up, by parent steps: in a tree none has an object twice, so none is longer than the tree has objects.
use Rattle.std.proofs.Common.{◌≡◌, ℕ, zero, suc, ◌+◌, ◌-◌, ◌<◌, ◌≤◌, ◌⊎◌, inl, inr, Bool, true, false, ◌||◌, eqb, IsTrue, List, [], ◌∷◌, length, Option, Some, None, refl, sym, ap, subst, ◌∙◌, arith}
use Rattle.std.proofs.lemmas.Bool.{cases_lt, eqb-true, eq-eqb, or_cases, or_right}
use Rattle.std.proofs.lemmas.Option.{same_Some}
use Rattle.std.proofs.lemmas.Map.Steps.{length-le_from_distinct_below}
use Rattle.std.specs.Option.{option_and_then}
use Rattle.std.specs.List.{list_any, IsDistinct, AllByRecursion}
use Rattle.std.specs.Ordering.{nat_cmp}
use Rattle.std.specs.FinMap as map
use Rattle.std.specs.FinMap.{FinMap}
use Rattle.mls_tables.specs.declared.limits.TheConstants.{MAX_OBJECTS}
use Rattle.mls_facts.specs.Numbered.{holds_of}
use Rattle.mls_facts.proofs.Distinct.{missing}
use Rattle.mls_tree.specs.Tree.{Reaches, here, up, IsTree, reaches_within}

-- what is met after so many parent steps, if there are so many
unfoldable pub above : FinMap nat_cmp ℕ → ℕ → ℕ → Option ℕ
above parent zero o = Some o
above parent (suc n) o = option_and_then (above parent n) (map.get parent o)

-- the way goes on from a parent
abbrev onward : (ℕ → List ℕ) → Option ℕ → List ℕ
onward way None = []
onward way (Some p) = way p

-- the objects on a way of so many steps up, without the last
unfoldable way : FinMap nat_cmp ℕ → ℕ → ℕ → List ℕ
way parent zero o = []
way parent (suc n) o = o ∷ onward (way parent n) (map.get parent o)

holds_of-some : (test : ℕ → Bool) (e : Option ℕ) → holds_of test e ≡ true → (p : ℕ) × (e ≡ Some p) × (test p ≡ true)
holds_of-some test None h = cc
holds_of-some test (Some p) h = (p, refl, h)

-- there is a parent or not
pub parent_cases : (e : Option ℕ) → ((p : ℕ) × (e ≡ Some p)) ⊎ (e ≡ None)
parent_cases None = inr refl
parent_cases (Some p) = inl (p, refl)

module _ (parent : FinMap nat_cmp ℕ) where
  pub above-step : (n o p : ℕ) → map.get parent o ≡ Some p → above parent (suc n) o ≡ above parent n p
  unfolding above
  above-step n o p is = ap (option_and_then (above parent n)) is

  above-none : (n o : ℕ) → map.get parent o ≡ None → above parent (suc n) o ≡ None
  unfolding above
  above-none n o is = ap (option_and_then (above parent n)) is

  pub above-zero : (o : ℕ) → above parent 0 o ≡ Some o
  unfolding above
  above-zero o = refl

  -- a step up, where there is one more
  pub first_step : (n o q : ℕ) → above parent (suc n) o ≡ Some q → (p : ℕ) × (map.get parent o ≡ Some p) × (above parent n p ≡ Some q)
  first_step n o q is = from (parent_cases (map.get parent o)) where
    from : ((p : ℕ) × (map.get parent o ≡ Some p)) ⊎ (map.get parent o ≡ None) → (p : ℕ) × (map.get parent o ≡ Some p) × (above parent n p ≡ Some q)
    from (inl (p, at)) = (p, at, sym (above-step n o p at) ∙ is)
    from (inr none) = let gone : above parent (suc n) o ≡ None = above-none n o none in absurd (let no : Some q ≡ None = sym is ∙ gone in cc)

  -- a way goes on where it had come to
  above-add : (m n k o q : ℕ) → m + n ≡ k → above parent m o ≡ Some q → above parent k o ≡ above parent n q
  above-add zero n k o q total is = let same : k ≡ n = omega arith in let at : o ≡ q = same_Some o q (sym (above-zero o) ∙ is) in (λ i. above parent (same i) (at i))
  above-add (suc m) n zero o q total is = absurd (omega arith)
  above-add (suc m) n (suc k) o q total is =
      let step = first_step m o q is in
      let rest : m + n ≡ k = omega arith in
      above-step k o step.0 step.1 ∙ above-add m n k step.0 q rest step.2

  -- to reach is to be met after some number of steps
  pub above-from_Reaches : {o a : ℕ} → Reaches parent o a → (n : ℕ) × (above parent n o ≡ Some a)
  above-from_Reaches (here {o = o}) = (0, above-zero o)
  above-from_Reaches (up {o = o} {p = p} {q = q} step rest) = let on = above-from_Reaches rest in (suc on.0, above-step on.0 o p step ∙ on.1)

  pub Reaches-from_above : (n o a : ℕ) → above parent n o ≡ Some a → Reaches parent o a
  Reaches-from_above zero o a is = let at : o ≡ a = same_Some o a (sym (above-zero o) ∙ is) in subst (λ q. Reaches parent o q) at here
  Reaches-from_above (suc n) o a is = let step = first_step n o a is in up step.1 (Reaches-from_above n step.0 a step.2)

  -- what is met within some number of steps is reached
  pub Reaches-from_within : (n o a : ℕ) → reaches_within parent n o a ≡ true → Reaches parent o a
  unfolding reaches_within
  Reaches-from_within zero o a h = subst (λ q. Reaches parent o q) (eqb-true o a h) here
  Reaches-from_within (suc n) o a h = from (λ p. Reaches-from_within n p a) (or_cases (eqb o a) (holds_of (λ p. reaches_within parent n p a) (map.get parent o)) h) where
    from : ((p : ℕ) → reaches_within parent n p a ≡ true → Reaches parent p a) → (eqb o a ≡ true) ⊎ (holds_of (λ p. reaches_within parent n p a) (map.get parent o) ≡ true) → Reaches parent o a
    from rest (inl same) = subst (λ q. Reaches parent o q) (eqb-true o a same) here
    from rest (inr later) = let step = holds_of-some (λ p. reaches_within parent n p a) (map.get parent o) later in up step.1 (rest step.0 step.2)

  -- what is met after some number of steps is met within as many and more
  pub within-from_above : (k n o a : ℕ) → k ≤ n → above parent k o ≡ Some a → reaches_within parent n o a ≡ true
  unfolding reaches_within
  within-from_above zero zero o a few is = eq-eqb o a (same_Some o a (sym (above-zero o) ∙ is))
  within-from_above zero (suc n) o a few is = ap (λ b. b || holds_of (λ p. reaches_within parent n p a) (map.get parent o)) (eq-eqb o a (same_Some o a (sym (above-zero o) ∙ is)))
  within-from_above (suc k) zero o a few is = absurd (omega arith)
  within-from_above (suc k) (suc n) o a few is =
      let step = first_step k o a is in
      let fewer : k ≤ n = omega arith in
      or_right (eqb o a) _ (ap (holds_of (λ p. reaches_within parent n p a)) step.1 ∙ within-from_above k n step.0 a fewer step.2)

module _ (parent : FinMap nat_cmp ℕ) (active : ℕ → Bool) (tree : IsTree parent active) where
  -- nothing is above the root
  above_root : (n q : ℕ) → above parent n 0 ≡ Some q → n ≡ 0
  above_root zero q is = refl
  above_root (suc n) q is = let step = first_step parent n 0 q is in absurd (let no : None ≡ Some step.0 = sym tree.root_has_no_parent ∙ step.1 in cc)

  -- the root is met after one number of steps alone
  one_height : (m n o : ℕ) → m < n → above parent m o ≡ Some 0 → above parent n o ≡ Some 0 → ⊥
  one_height m n o less first second =
      let total : m + (n - m) ≡ n = omega arith in
      let rest : n - m ≡ 0 = above_root (n - m) 0 (sym (above-add parent m (n - m) n o 0 total first) ∙ second) in
      omega arith

  -- no way comes back to where it began
  pub no_return : (k o : ℕ) → IsTrue (active o) → above parent (suc k) o ≡ Some o → ⊥
  no_return k o is back =
      let top = above-from_Reaches parent (tree.reaches_root o is) in
      one_height top.0 (suc k + top.0) o (omega arith) top.1 (above-add parent (suc k) top.0 (suc k + top.0) o o refl back ∙ top.1)

  -- what is above an active object is active
  active_above : (k o q : ℕ) → IsTrue (active o) → above parent k o ≡ Some q → IsTrue (active q)
  active_above zero o q is at = subst (λ a. IsTrue (active a)) (same_Some o q (sym (above-zero parent o) ∙ at)) is
  active_above (suc k) o q is at = let step = first_step parent k o q at in active_above k step.0 q (tree.children_active o step.0 step.1).1 step.2

  -- what is on a way is met after fewer steps
  met : (n o q : ℕ) → list_any (eqb q) (way parent n o) ≡ true → (k : ℕ) × (k < n) × (above parent k o ≡ Some q)
  unfolding way
  met zero o q there = cc
  met (suc n) o q there = from (λ p. met n p q) (or_cases (eqb q o) (list_any (eqb q) (onward (way parent n) (map.get parent o))) there) where
    later : ((p : ℕ) → list_any (eqb q) (way parent n p) ≡ true → (k : ℕ) × (k < n) × (above parent k p ≡ Some q)) → (e : Option ℕ) → map.get parent o ≡ e → list_any (eqb q) (onward (way parent n) e) ≡ true → (k : ℕ) × (k < suc n) × (above parent k o ≡ Some q)
    later on None at there = cc
    later on (Some p) at there = let rest = on p there in (suc rest.0, omega arith, above-step parent rest.0 o p at ∙ rest.2)

    from : ((p : ℕ) → list_any (eqb q) (way parent n p) ≡ true → (k : ℕ) × (k < n) × (above parent k p ≡ Some q)) → (eqb q o ≡ true) ⊎ (list_any (eqb q) (onward (way parent n) (map.get parent o)) ≡ true) → (k : ℕ) × (k < suc n) × (above parent k o ≡ Some q)
    from on (inl first) = (0, omega arith, above-zero parent o ∙ ap Some (sym (eqb-true q o first)))
    from on (inr rest) = later on (map.get parent o) refl rest

  length-way : (n o q : ℕ) → above parent n o ≡ Some q → length (way parent n o) ≡ n
  unfolding way
  length-way zero o q is = refl
  length-way (suc n) o q is =
      let step = first_step parent n o q is in
      ap (λ e. suc (length (onward (way parent n) e))) step.1 ∙ ap suc (length-way n step.0 q step.2)

  -- no object is on the way to the root twice
  distinct : (n o : ℕ) → IsTrue (active o) → above parent n o ≡ Some 0 → IsDistinct eqb (way parent n o)
  unfolding way IsDistinct
  distinct zero o is top = tt
  distinct (suc n) o is top =
      let step = first_step parent n o 0 top in
      let P : Option ℕ → Type 0 = λ e. AllByRecursion (λ y. eqb o y ≡ false) (onward (way parent n) e) × IsDistinct eqb (onward (way parent n) e) in
      subst P (sym step.1) (
        missing o (way parent n step.0) (λ there. let again = met n step.0 o there in no_return again.0 o is (above-step parent again.0 o step.0 step.1 ∙ again.2)),
        distinct n step.0 (tree.children_active o step.0 step.1).1 step.2,
      )

  -- the root is met after at most as many steps as there are numbers
  height : (n o : ℕ) → IsTrue (active o) → above parent n o ≡ Some 0 → n ≤ MAX_OBJECTS
  height n o is top =
      let few : length (way parent n o) ≤ MAX_OBJECTS =
      length-le_from_distinct_below (way parent n o) MAX_OBJECTS (distinct n o is top) (λ q there. let at = met n o q there in tree.below q (active_above at.0 o q is at.2)) in
      let long : length (way parent n o) ≡ n = length-way n o 0 top in
      omega arith

  -- what an active object reaches it reaches within 4,096 steps
  pub within-from_Reaches : (o a : ℕ) → IsTrue (active o) → Reaches parent o a → reaches_within parent MAX_OBJECTS o a ≡ true
  within-from_Reaches o a is way_up =
      let at = above-from_Reaches parent way_up in
      let top = above-from_Reaches parent (tree.reaches_root o is) in
      from at.0 at.1 top.0 top.1 (cases_lt top.0 at.0) (height top.0 o is top.1) where
        from : (k : ℕ) → above parent k o ≡ Some a → (n : ℕ) → above parent n o ≡ Some 0 → (n < k) ⊎ (k ≤ n) → n ≤ MAX_OBJECTS → reaches_within parent MAX_OBJECTS o a ≡ true
        from k at n top (inl past) few =
            let total : n + (k - n) ≡ k = omega arith in
            let none : k - n ≡ 0 = above_root (k - n) a (sym (above-add parent n (k - n) k o 0 total top) ∙ at) in
            absurd (omega arith)
        from k at n top (inr within) few = within-from_above parent k MAX_OBJECTS o a (omega arith) at
