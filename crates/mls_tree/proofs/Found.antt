-- The search for the inferiors of an object, level by level.
use Rattle.std.proofs.Common.{◌≡◌, ℕ, zero, suc, ◌+◌, ◌<◌, ◌≤◌, ◌⊎◌, inl, inr, true, false, ◌||◌, eqb, IsTrue, List, [], ◌∷◌, ◌++◌, length, take, get_or, Some, refl, sym, ap, ◌∙◌, arith, length-append}
use Rattle.std.proofs.lemmas.Bool.{cases_Bool, cases_eq, eqb-true, eq-eqb, or_cases, or_left, or_right}
use Rattle.std.proofs.lemmas.List.{take-append-le, take_all}
use Rattle.std.proofs.lemmas.List.Folds.{list_any_more, list_any_at}
use Rattle.std.proofs.lemmas.List.Sorted.{list_any-IsPermutation}
use Rattle.std.proofs.lemmas.Map.Keys.{IsDistinct-IsPermutation, IsStrictlyIncreasing-from_distinct}
use Rattle.std.proofs.lemmas.Map.Steps.{length-le_from_distinct_below}
use Rattle.std.proofs.lemmas.Option.{same_Some}
use Rattle.std.specs.Cmp.{nat_eq_equiv}
use Rattle.std.specs.List.{list_any, IsDistinct}
use Rattle.std.specs.List.Sorted.{IsPermutation, IsNonDecreasing}
use Rattle.std.specs.Ordering.{nat_cmp}
use Rattle.std.specs.FinMap as map
use Rattle.std.specs.FinMap.{FinMap}
use Rattle.mls_tables.specs.declared.limits.TheConstants.{MAX_OBJECTS}
use Rattle.mls_facts.proofs.Distinct.{list_any-left, list_any-right, list_any-either, IsDistinct-append, IsDistinct-increasing, not_before}
use Rattle.mls_facts.proofs.Increasing.{same_increasing}
use Rattle.mls_tree.specs.Tree.{IsTree, is_active, is_inferior, children, inferiors}
use Rattle.mls_tree.proofs.Ways.{above, above-zero, above-step, above-from_Reaches, first_step, no_return}
use Rattle.mls_tree.proofs.Inferiors.{inferior_below, inferior_itself, inferior_small, inferior_active, Reaches-from_inferior}
use Rattle.mls_tree.proofs.Listed.{parent_from_child, child_from_parent, list_any-children, list_any-inferiors, IsStrictlyIncreasing-children, IsStrictlyIncreasing-inferiors}

-- Of the inferiors of o those that were found, of which the first i were looked at: what is found is an inferior; o is
-- found; what is below one of the first i is found; and what else is found is below one of them.
pub record Finds (parent : FinMap nat_cmp ℕ) (o : ℕ) (found : List ℕ) (i : ℕ) : Type 0 where
  sound : (q : ℕ) → list_any (eqb q) found ≡ true → is_inferior parent q o ≡ true
  top : list_any (eqb o) found ≡ true
  closed : (c p : ℕ) → map.get parent c ≡ Some p → list_any (eqb p) (take i found) ≡ true → list_any (eqb c) found ≡ true
  from : (c p : ℕ) → list_any (eqb c) found ≡ true → (c ≡ o → ⊥) → map.get parent c ≡ Some p → list_any (eqb p) (take i found) ≡ true
  distinct : IsDistinct eqb found
  within : i ≤ length found

module _ (parent : FinMap nat_cmp ℕ) (tree : IsTree parent (is_active parent)) (o : ℕ) (active : IsTrue (is_active parent o)) where
  -- what is above an inferior but the object itself is an inferior
  completes : (found : List ℕ) (i : ℕ) → Finds parent o found i → length found ≤ i → (n q : ℕ) → above parent n q ≡ Some o → list_any (eqb q) found ≡ true
  completes found i finds all zero q at = ap (λ z. list_any (eqb z) found) (same_Some q o (sym (above-zero parent q) ∙ at)) ∙ finds.top
  completes found i finds all (suc n) q at =
      let step = first_step parent n q o at in
      let whole : take i found ≡ found = take_all i found all in
      finds.closed q step.0 step.1 (ap (list_any (eqb step.0)) whole ∙ completes found i finds all n step.0 step.2)

  -- the search begins at the object itself
  pub Finds-first : Finds parent o (o ∷ []) 0
  unfolding IsDistinct
  Finds-first = record {
    sound = λ q there. from q (or_cases (eqb q o) false there);
    top = ap (λ b. b || false) (eq-eqb o o refl);
    closed = λ c p step there. cc;
    from = λ c p there other step. absurd (other (at c (or_cases (eqb c o) false there)));
    distinct = (tt, tt);
    within = omega arith;
  } where
    at : (q : ℕ) → (eqb q o ≡ true) ⊎ (false ≡ true) → q ≡ o
    at q (inl same) = eqb-true q o same
    at q (inr never) = cc

    from : (q : ℕ) → (eqb q o ≡ true) ⊎ (false ≡ true) → is_inferior parent q o ≡ true
    from q e = ap (λ z. is_inferior parent z o) (at q e) ∙ inferior_itself parent (is_active parent) tree o active

  -- there are no more found than there are numbers
  pub found_few : (found : List ℕ) (i : ℕ) → Finds parent o found i → length found ≤ MAX_OBJECTS
  found_few found i finds = length-le_from_distinct_below found MAX_OBJECTS finds.distinct (λ q there. inferior_small parent (is_active parent) tree q o (finds.sound q there))

  module _ (found : List ℕ) (i : ℕ) (finds : Finds parent o found i) (within : i < length found) where
    abbrev v : ℕ
    v = get_or found i 0

    there_v : list_any (eqb v) found ≡ true
    there_v = list_any_at (eqb v) found i 0 within (eq-eqb v v refl)

    seen : (p : ℕ) → list_any (eqb p) (take (i + 1) (found ++ children parent v)) ≡ (list_any (eqb p) (take i found) || eqb p v)
    seen p = let low : i + 1 ≤ length found = omega arith in ap (list_any (eqb p)) (take-append-le (i + 1) found (children parent v) low) ∙ list_any_more (eqb p) found i 0 within

    child : (c : ℕ) → list_any (eqb c) (children parent v) ≡ true → map.get parent c ≡ Some v
    child c there = parent_from_child parent c v (sym (list_any-children parent tree c v) ∙ there)

    sound : (q : ℕ) → (list_any (eqb q) found ≡ true) ⊎ (list_any (eqb q) (children parent v) ≡ true) → is_inferior parent q o ≡ true
    sound q (inl there) = finds.sound q there
    sound q (inr there) = inferior_below parent (is_active parent) tree q v o (child q there) (finds.sound v there_v)

    closed : (c p : ℕ) → map.get parent c ≡ Some p → (list_any (eqb p) (take i found) ≡ true) ⊎ (eqb p v ≡ true) → list_any (eqb c) (found ++ children parent v) ≡ true
    closed c p step (inl before) = list_any-left c found (children parent v) (finds.closed c p step before)
    closed c p step (inr now) =
        list_any-right c found (children parent v) (list_any-children parent tree c v ∙ child_from_parent parent c v (step ∙ ap Some (eqb-true p v now)))

    from : (c p : ℕ) → (c ≡ o → ⊥) → map.get parent c ≡ Some p → (list_any (eqb c) found ≡ true) ⊎ (list_any (eqb c) (children parent v) ≡ true) → list_any (eqb p) (take (i + 1) (found ++ children parent v)) ≡ true
    from c p other step (inl there) = seen p ∙ or_left (list_any (eqb p) (take i found)) (eqb p v) (finds.from c p there other step)
    from c p other step (inr there) = seen p ∙ or_right (list_any (eqb p) (take i found)) (eqb p v) (eq-eqb p v (same_Some p v (sym step ∙ child c there)))

    again : (c : ℕ) → list_any (eqb c) found ≡ true → map.get parent c ≡ Some v → (c ≡ o) ⊎ (c ≡ o → ⊥) → ⊥
    again c there step (inl same) =
        let way = above-from_Reaches parent (Reaches-from_inferior parent (is_active parent) tree v o (finds.sound v there_v)).1 in
        let round : above parent (suc way.0) o ≡ Some o = above-step parent way.0 o v (ap (map.get parent) (sym same) ∙ step) ∙ way.1 in
        no_return parent (is_active parent) tree way.0 o active round
    again c there step (inr other) = not_before found i finds.distinct within (finds.from c v there other step)

    apart : (q : ℕ) → list_any (eqb q) found ≡ true → list_any (eqb q) (children parent v) ≡ true → ⊥
    apart q there below = again q there (child q below) (cases_eq q o)

    -- the next one is an object
    pub found_active : is_active parent (get_or found i 0) ≡ true
    found_active = inferior_active parent (is_active parent) tree v o (finds.sound v there_v)

    -- the search goes on with the children of the next one
    pub Finds-more : Finds parent o (found ++ children parent (get_or found i 0)) (i + 1)
    Finds-more = record {
      sound = λ q there. sound q (list_any-either q found (children parent v) there);
      top = list_any-left o found (children parent v) finds.top;
      closed = λ c p step there. closed c p step (or_cases (list_any (eqb p) (take i found)) (eqb p v) (sym (seen p) ∙ there));
      from = λ c p there other step. from c p other step (list_any-either c found (children parent v) there);
      distinct = IsDistinct-append found (children parent v) finds.distinct (IsDistinct-increasing (children parent v) (IsStrictlyIncreasing-children parent v)) apart;
      within = let l : length (found ++ children parent v) ≡ length found + length (children parent v) = length-append found (children parent v) in omega arith;
    }

  -- what is found in the end, in order, are the inferiors
  pub inferiors_found : (found ys : List ℕ) (i : ℕ) → Finds parent o found i → length found ≤ i → IsPermutation found ys → IsNonDecreasing ys → ys ≡ inferiors parent o
  inferiors_found found ys i finds all moved ordered =
      let distinct : IsDistinct eqb ys = IsDistinct-IsPermutation eqb nat_eq_equiv.symm found ys moved finds.distinct in
      same_increasing ys (inferiors parent o) (IsStrictlyIncreasing-from_distinct ys ordered distinct) (IsStrictlyIncreasing-inferiors parent o) (λ q. sym (list_any-IsPermutation (eqb q) found ys moved) ∙ same q (cases_Bool (is_inferior parent q o)) (cases_Bool (list_any (eqb q) found)) ∙ sym (list_any-inferiors parent tree q o)) where
        same : (q : ℕ) → (is_inferior parent q o ≡ true) ⊎ (is_inferior parent q o ≡ false) → (list_any (eqb q) found ≡ true) ⊎ (list_any (eqb q) found ≡ false) → list_any (eqb q) found ≡ is_inferior parent q o
        same q (inl is) there = let way = above-from_Reaches parent (Reaches-from_inferior parent (is_active parent) tree q o is).1 in completes found i finds all way.0 q way.1 ∙ sym is
        same q (inr out) (inl there) = let no : true ≡ false = sym (finds.sound q there) ∙ out in cc
        same q (inr out) (inr gone) = gone ∙ sym out
