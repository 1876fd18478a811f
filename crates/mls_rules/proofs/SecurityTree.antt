-- To create and to delete leaves a secure state secure.
use Rattle.std.proofs.Common.{◌≡◌, ℕ, Bool, true, false, not, ◌&&◌, nat_eq, ◌<◌, Some, refl, sym, ap, subst, ◌∙◌}
use Rattle.std.specs.FinSet as set
use Rattle.std.specs.FinMap as map
use Rattle.mls_labels.specs.Label.{Label}
use Rattle.mls_tables.specs.Triples.{Triple}
use Rattle.mls_tree.specs.Tree.{is_inferior}
use Rattle.mls_tree.proofs.Laws.{inferior_below, next_free}
use Rattle.mls_tables.specs.declared.limits.TheConstants.{MAX_OBJECTS}
use Rattle.mls_requests.specs.declared.action.Action.TheVariants.{Create, Delete}
use Rattle.mls_state.specs.State.{State, is_subject, is_active, is_above}
use Rattle.mls_state.specs.Properties.{IsSecure, HasTree, compatible_holds}
use Rattle.mls_rules.specs.Rules.{change}
use Rattle.mls_state.specs.Changes.{stays}
use Rattle.std.proofs.lemmas.Bool.{and_parts, and_from, ne_eqb}
use Rattle.mls_state.proofs.Laws.{kept_there, kept_passes, within-retain}
use Rattle.mls_facts.proofs.Entries.{at_new, elsewhere, by_number, at_kept, was_there}
use Rattle.mls_rules.proofs.LabelsSame.{simple_still, star_still, integrity_still, compatible_still}

some_same : (a b : ℕ) → Some a ≡ Some b → a ≡ b
some_same a b e = cc

-- to create adds an object that fits its parent, and no triple
pub create_secure : (v : State) (s p : ℕ) (l i : Label) → IsSecure v → HasTree (change v s (Create p l i)) → is_active v p ≡ true
    → is_above (Some l) (map.get v.object_label p) ≡ true → is_above (map.get v.object_integrity p) (Some i) ≡ true
    → v.next < MAX_OBJECTS → IsSecure (change v s (Create p l i))
create_secure v s p l i' h tree parent compatible integrity room = record {
  simple = λ t there. simple_still v w t refl (same_label t.1 (object t there)) (h.simple t there);
  star = λ t there. star_still v w t refl refl (same_label t.1 (object t there)) (h.star t there);
  discretionary = h.discretionary;
  compatible = λ c q step. by_number v.next c (λ c. map.get w.parent c ≡ Some q → compatible_holds w c q ≡ true)
      (λ at. subst (λ q. compatible_holds w v.next q ≡ true) (some_same p q (sym (at_new v.parent v.next p) ∙ at)) new_fits)
      (λ other at. old_fits c q (sym (elsewhere v.parent v.next p c other) ∙ at)) step;
  tree = tree;
  integrity = λ t there. integrity_still v w t refl (same_integrity t.1 (object t there)) (h.integrity t there);
  ceiling = h.ceiling;
} where
  w : State
  w = change v s (Create p l i')

  not_new : (o : ℕ) → is_active v o ≡ true → nat_eq o v.next ≡ false
  not_new o active = ne_eqb o v.next (λ same. let no : true ≡ false = sym active ∙ ap (is_active v) same ∙ next_free v.profile (is_active v) v.next h.tree.next room in cc)

  same_label : (o : ℕ) → is_active v o ≡ true → map.get w.object_label o ≡ map.get v.object_label o
  same_label o active = elsewhere v.object_label v.next l o (not_new o active)

  same_integrity : (o : ℕ) → is_active v o ≡ true → map.get w.object_integrity o ≡ map.get v.object_integrity o
  same_integrity o active = elsewhere v.object_integrity v.next i' o (not_new o active)

  object : (t : Triple) → set.contains v.accesses t ≡ true → is_active v t.1 ≡ true
  object t there = (and_parts (is_subject v t.0) (is_active v t.1) (h.tree.accesses_known t there)).1

  new_fits : compatible_holds w v.next p ≡ true
  new_fits =
      (λ k. is_above (at_new v.object_label v.next l k) (same_label p parent k)
      && is_above (same_integrity p parent k) (at_new v.object_integrity v.next i' k))
      ∙ and_from _ _ compatible integrity

  old_fits : (c q : ℕ) → map.get v.parent c ≡ Some q → compatible_holds w c q ≡ true
  old_fits c q step =
      let both = h.tree.objects.children_active c q step in
      compatible_still v w c q (same_label c both.0) (same_label q both.1) (same_integrity c both.0) (same_integrity q both.1) (h.compatible c q step)

outside : (b c : Bool) → (b ≡ true → c ≡ true) → not c ≡ true → not b ≡ true
outside true c within out = let no : not c ≡ false = ap not (within refl) in cc
outside false c within out = refl

-- the parent of what stays does too
parent_stays : (v : State) (o : ℕ) → HasTree v → (c p : ℕ) → map.get v.parent c ≡ Some p → stays v o c ≡ true → stays v o p ≡ true
parent_stays v o tree c p step kept =
    outside (is_inferior v.parent p o) (is_inferior v.parent c o) (inferior_below v.parent (is_active v) tree.objects c p o step) kept

-- to delete keeps some triples, and the labels of the objects that they name
pub delete_secure : (v : State) (s o : ℕ) → IsSecure v → HasTree (change v s (Delete o)) → IsSecure (change v s (Delete o))
delete_secure v s o h tree = record {
  simple = λ t there. simple_still v w t refl (same_label t.1 (kept t there)) (h.simple t (was t there));
  star = λ t there. star_still v w t refl refl (same_label t.1 (kept t there)) (h.star t (was t there));
  discretionary = within-retain v.accesses v.matrix (λ t. stays v o t.1) h.discretionary;
  compatible = λ c p step.
      let before = was_there v.parent (stays v o) c p step in
      let above : stays v o p ≡ true = parent_stays v o h.tree c p before.1 before.0 in
      compatible_still v w c p (same_label c before.0) (same_label p above) (same_integrity c before.0) (same_integrity p above)
      (h.compatible c p before.1);
  tree = tree;
  integrity = λ t there. integrity_still v w t refl (same_integrity t.1 (kept t there)) (h.integrity t (was t there));
  ceiling = h.ceiling;
} where
  w : State
  w = change v s (Delete o)

  was : (t : Triple) → set.contains w.accesses t ≡ true → set.contains v.accesses t ≡ true
  was t there = kept_there v.accesses (λ t. stays v o t.1) t there

  kept : (t : Triple) → set.contains w.accesses t ≡ true → stays v o t.1 ≡ true
  kept t there = kept_passes v.accesses (λ t. stays v o t.1) t there

  same_label : (x : ℕ) → stays v o x ≡ true → map.get w.object_label x ≡ map.get v.object_label x
  same_label x passes = at_kept v.object_label (stays v o) x passes

  same_integrity : (x : ℕ) → stays v o x ≡ true → map.get w.object_integrity x ≡ map.get v.object_integrity x
  same_integrity x passes = at_kept v.object_integrity (stays v o) x passes
