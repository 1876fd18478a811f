-- Inferiors: in a tree an object is one of another exactly where it reaches it.
use Rattle.std.proofs.Common.{◌≡◌, ℕ, zero, suc, ◌<◌, ◌⊎◌, ◌↔◌, inl, inr, Bool, true, false, cond, not, ◌&&◌, ◌||◌, eqb, is_some, IsTrue, Option, Some, None, refl, sym, ap, ◌∙◌}
use Rattle.std.proofs.lemmas.Bool.{cases_Bool, eqb-true, eq-eqb, ne_eqb, and_parts, and_from, or_right, not-true}
use Rattle.std.proofs.lemmas.Option.{same_Some}
use Rattle.std.specs.Ordering.{nat_cmp}
use Rattle.std.specs.FinMap as map
use Rattle.std.specs.FinMap.{FinMap}
use Rattle.mls_tables.specs.declared.limits.TheConstants.{MAX_OBJECTS}
use Rattle.mls_tree.specs.Tree.{Reaches, here, up, IsTree, is_active, reaches_within, is_inferior}
use Rattle.mls_facts.proofs.Entries.{get-kept, has-kept, at_kept, was_there}
use Rattle.mls_tree.proofs.Ways.{above, above-zero, above-from_Reaches, first_step, parent_cases, Reaches-from_within, within-from_Reaches}

module _ (parent : FinMap nat_cmp ℕ) (active : ℕ → Bool) (tree : IsTree parent active) where
  -- what is active in a tree is the root, or has a parent
  pub is_active-tree : (o : ℕ) → active o ≡ is_active parent o
  is_active-tree o = from (cases_Bool (active o)) (parent_cases (map.get parent o)) where
    only_root : map.get parent o ≡ None → (n : ℕ) → above parent n o ≡ Some 0 → o ≡ 0
    only_root none zero at = same_Some o 0 (sym (above-zero parent o) ∙ at)
    only_root none (suc n) at = let step = first_step parent n o 0 at in let no : None ≡ Some step.0 = sym none ∙ step.1 in cc

    from : (active o ≡ true) ⊎ (active o ≡ false) → ((p : ℕ) × (map.get parent o ≡ Some p)) ⊎ (map.get parent o ≡ None) → active o ≡ is_active parent o
    from (inl is) (inl (p, at)) = is ∙ sym (or_right (eqb o 0) (is_some (map.get parent o)) (ap is_some at))
    from (inl is) (inr none) =
        let top = above-from_Reaches parent (tree.reaches_root o is) in
        is ∙ sym (ap (λ b. b || is_some (map.get parent o)) (eq-eqb o 0 (only_root none top.0 top.1)))
    from (inr out) (inl (p, at)) = let no : true ≡ false = sym (tree.children_active o p at).0 ∙ out in cc
    from (inr out) (inr none) =
        let other : eqb o 0 ≡ false = ne_eqb o 0 (λ root. let no : true ≡ false = sym tree.root_active ∙ ap active (sym root) ∙ out in cc) in
        out ∙ sym (λ i. other i || is_some (none i))

  -- The test and the way up say the same.
  pub Reaches-from_inferior : (o a : ℕ) → is_inferior parent o a ≡ true → IsTrue (active o) × Reaches parent o a
  unfolding is_inferior
  Reaches-from_inferior o a is = let parts = and_parts (is_active parent o) (reaches_within parent MAX_OBJECTS o a) is in (is_active-tree o ∙ parts.0, Reaches-from_within parent MAX_OBJECTS o a parts.1)

  pub inferior_from_Reaches : (o a : ℕ) → IsTrue (active o) → Reaches parent o a → is_inferior parent o a ≡ true
  unfolding is_inferior
  inferior_from_Reaches o a is way = and_from (is_active parent o) (reaches_within parent MAX_OBJECTS o a) (sym (is_active-tree o) ∙ is) (within-from_Reaches parent active tree o a is way)

  pub is_inferior-Reaches : (o a : ℕ) → IsTrue (is_inferior parent o a) ↔ (IsTrue (active o) × Reaches parent o a)
  is_inferior-Reaches o a = (Reaches-from_inferior o a, λ h. inferior_from_Reaches o a h.0 h.1)

  -- what is below an inferior is an inferior
  pub inferior_below : (o p a : ℕ) → map.get parent o ≡ Some p → is_inferior parent p a ≡ true → is_inferior parent o a ≡ true
  inferior_below o p a step is = inferior_from_Reaches o a (tree.children_active o p step).0 (up step (Reaches-from_inferior p a is).1)

  -- an object is its own inferior
  pub inferior_itself : (o : ℕ) → IsTrue (active o) → is_inferior parent o o ≡ true
  inferior_itself o is = inferior_from_Reaches o o is here

  pub inferior_active : (o a : ℕ) → is_inferior parent o a ≡ true → IsTrue (active o)
  inferior_active o a is = (Reaches-from_inferior o a is).0

  pub inferior_small : (o a : ℕ) → is_inferior parent o a ≡ true → o < MAX_OBJECTS
  inferior_small o a is = tree.below o (inferior_active o a is)

  -- the root is no inferior of another
  root_stays : (a : ℕ) → (a ≡ 0 → ⊥) → is_inferior parent 0 a ≡ false
  root_stays a other = from (cases_Bool (is_inferior parent 0 a)) where
    at_root : (n : ℕ) → above parent n 0 ≡ Some a → a ≡ 0
    at_root zero at = sym (same_Some 0 a (sym (above-zero parent 0) ∙ at))
    at_root (suc n) at = let step = first_step parent n 0 a at in let no : None ≡ Some step.0 = sym tree.root_has_no_parent ∙ step.1 in cc

    from : (is_inferior parent 0 a ≡ true) ⊎ (is_inferior parent 0 a ≡ false) → is_inferior parent 0 a ≡ false
    from (inl is) = let way = above-from_Reaches parent (Reaches-from_inferior 0 a is).1 in absurd (other (at_root way.0 way.1))
    from (inr out) = out

  module _ (a : ℕ) (other : a ≡ 0 → ⊥) where
    abbrev stays : ℕ → Bool
    stays x = not (is_inferior parent x a)

    -- the parent of what stays does too
    stays_above : (o p : ℕ) → map.get parent o ≡ Some p → stays o ≡ true → stays p ≡ true
    stays_above o p step kept = from (cases_Bool (is_inferior parent p a)) where
      from : (is_inferior parent p a ≡ true) ⊎ (is_inferior parent p a ≡ false) → stays p ≡ true
      from (inl is) = let no : true ≡ false = sym (inferior_below o p a step is) ∙ not-true (is_inferior parent o a) kept in cc
      from (inr out) = ap not out

    Reaches-kept : {o q : ℕ} → stays o ≡ true → Reaches parent o q → Reaches (map.retain_keys parent stays) o q
    Reaches-kept kept here = here
    Reaches-kept kept (up {o = o} {p = p} {q = q} step rest) =
        up (at_kept parent stays o kept ∙ step) (Reaches-kept (stays_above o p step kept) rest)

    -- A tree stays one without the inferiors of an object other than the root.
    pub IsTree-retain : (left : ℕ → Bool) → ((o : ℕ) → left o ≡ (active o && stays o)) → IsTree (map.retain_keys parent stays) left
    IsTree-retain left is = record {
      root_active = is 0 ∙ and_from (active 0) (stays 0) tree.root_active (ap not (root_stays a other));
      root_has_no_parent = get-kept parent stays 0 ∙ none_either (stays 0) (map.get parent 0) tree.root_has_no_parent;
      reaches_root = λ o h. Reaches-kept (was o h).1 (tree.reaches_root o (was o h).0);
      children_active = λ o p h.
          let step = was_there parent stays o p h in
          let both = tree.children_active o p step.1 in
          (is o ∙ and_from (active o) (stays o) both.0 step.0, is p ∙ and_from (active p) (stays p) both.1 (stays_above o p step.1 step.0));
      below = λ o h. tree.below o (was o h).0;
    } where
      was : (o : ℕ) → IsTrue (left o) → (active o ≡ true) × (stays o ≡ true)
      was o h = and_parts (active o) (stays o) (sym (is o) ∙ h)

      none_either : (b : Bool) (e : Option ℕ) → e ≡ None → cond b e None ≡ None
      none_either true e h = h
      none_either false e h = refl

-- what is active without the inferiors of an object other than the root
pub is_active-retain : (parent : FinMap nat_cmp ℕ) (a : ℕ) → IsTree parent (is_active parent) → (a ≡ 0 → ⊥) → (o : ℕ) → is_active (map.retain_keys parent (λ x. not (is_inferior parent x a))) o ≡ (is_active parent o && not (is_inferior parent o a))
is_active-retain parent a tree other o =
    ap (λ b. eqb o 0 || b) (has-kept parent (λ x. not (is_inferior parent x a)) o)
    ∙ grouped (eqb o 0) (map.contains_key parent o) (not (is_inferior parent o a)) (λ root.
    ap not (ap (λ q. is_inferior parent q a) (eqb-true o 0 root) ∙ root_stays parent (is_active parent) tree a other)) where
      grouped : (r c s : Bool) → (r ≡ true → s ≡ true) → (r || (c && s)) ≡ ((r || c) && s)
      grouped true c s stays = sym (stays refl)
      grouped false c s stays = refl
