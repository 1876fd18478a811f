-- To change a subject's level and to relabel an object leaves a secure state secure.
use Rattle.std.proofs.Common.{◌≡◌, ℕ, Bool, true, false, not, ◌||◌, nat_eq, Option, Some, None, refl, sym, ap, ◌∙◌}
use Rattle.std.specs.FinMap as map
use Rattle.std.specs.FinSet as set
use Rattle.mls_labels.specs.Label.{Label}
use Rattle.mls_facts.specs.Each.{each}
use Rattle.mls_facts.proofs.Each.{each-contains, contains-each}
use Rattle.mls_labels.proofs.Laws.{reflexive}
use Rattle.mls_tables.specs.Triples.{Triple, TripleSet}
use Rattle.mls_tables.proofs.Laws.{triples_total, same_triple}
use Rattle.mls_state.specs.State.{State, is_subject, is_above}
use Rattle.mls_state.specs.Properties.{IsSecure, HasTree, simple_holds, star_between, star_holds}
use Rattle.mls_state.specs.Changes.{with_current, with_object_label}
use Rattle.mls_rules.specs.Levels.{each_of_subject, each_of_object, each_child, is_above_parent, label_fits}
use Rattle.std.proofs.lemmas.Bool.{and_parts, and_from, or_right}
use Rattle.mls_facts.proofs.Entries.{by_number, at_new, elsewhere}
use Rattle.mls_rules.proofs.LabelsSame.{simple_still, star_still}
use Rattle.mls_rules.proofs.Listed.{one_of_children}

-- what passes for all triples that a test picks passes for one of them
pub one_of_picked : (b : TripleSet) (picks passes : Triple → Bool) → each b (λ t. not (picks t) || passes t) ≡ true
    → (t : Triple) → set.contains b t ≡ true → picks t ≡ true → passes t ≡ true
one_of_picked b picks passes all t there picked =
    ap (λ c. not c || passes t) (sym picked) ∙ each-contains triples_total same_triple b (λ u. not (picks u) || passes u) t all there

pub all_of_picked : (b : TripleSet) (picks passes : Triple → Bool)
    → ((t : Triple) → set.contains b t ≡ true → picks t ≡ true → passes t ≡ true) → each b (λ t. not (picks t) || passes t) ≡ true
all_of_picked b picks passes known = contains-each triples_total same_triple b (λ t. not (picks t) || passes t) (λ t there. from t there (picks t) refl) where
  from : (t : Triple) → set.contains b t ≡ true → (c : Bool) → picks t ≡ c → (not (picks t) || passes t) ≡ true
  from t there true picked = or_right (not (picks t)) (passes t) (known t there picked)
  from t there false other = ap (λ c. not c || passes t) other

-- what holds where a test passes, and where it doesn't
by_test : (b : Bool) (P : Type 0) → (b ≡ true → P) → (b ≡ false → P) → P
by_test true P on off = on refl
by_test false P on off = off refl

-- to change a subject's current label changes star of its own accesses alone, and its ceiling
pub subject_level_secure : (v : State) (s : ℕ) (l : Label) → IsSecure v → HasTree (with_current v s l)
    → is_above (map.get v.maximum s) (Some l) ≡ true → each_of_subject v s (star_holds (with_current v s l)) ≡ true
    → IsSecure (with_current v s l)
subject_level_secure v s l h tree under star = record {
  simple = h.simple;
  star = λ t there. by_test (nat_eq t.0 s) (star_holds w t ≡ true)
      (λ own. one_of_picked v.accesses (λ u. nat_eq u.0 s) (star_holds w) star t there own)
      (λ other. ap (λ e. set.contains v.trusted t.0 || star_between e (map.get v.object_label t.1) t.2) (elsewhere v.current s l t.0 other) ∙ h.star t there);
  discretionary = h.discretionary;
  compatible = h.compatible;
  tree = tree;
  integrity = h.integrity;
  ceiling = λ q known. by_number s q (λ k. is_subject v k ≡ true → is_above (map.get v.maximum k) (map.get w.current k) ≡ true)
      (λ _. ap (is_above (map.get v.maximum s)) (at_new v.current s l) ∙ under)
      (λ other there. ap (is_above (map.get v.maximum q)) (elsewhere v.current s l q other) ∙ h.ceiling q there) known;
} where
  w : State
  w = with_current v s l

-- to relabel an object changes the tests of its accesses alone, and of its place among its parent and its children
pub object_level_secure : (v : State) (o : ℕ) (l : Label) → IsSecure v → HasTree (with_object_label v o l) → label_fits v o l ≡ true
    → each_of_object v o (simple_holds (with_object_label v o l)) ≡ true → each_of_object v o (star_holds (with_object_label v o l)) ≡ true
    → IsSecure (with_object_label v o l)
object_level_secure v o l h tree fits simple star = record {
  simple = λ t there. by_test (nat_eq t.1 o) (simple_holds w t ≡ true)
      (λ own. one_of_picked v.accesses (λ u. nat_eq u.1 o) (simple_holds w) simple t there own)
      (λ other. simple_still v w t refl (elsewhere v.object_label o l t.1 other) (h.simple t there));
  star = λ t there. by_test (nat_eq t.1 o) (star_holds w t ≡ true)
      (λ own. one_of_picked v.accesses (λ u. nat_eq u.1 o) (star_holds w) star t there own)
      (λ other. star_still v w t refl refl (elsewhere v.object_label o l t.1 other) (h.star t there));
  discretionary = h.discretionary;
  compatible = λ c p step.
      and_from _ _ (still_above c p step) ((and_parts (is_above (map.get v.object_label c) (map.get v.object_label p)) _ (h.compatible c p step)).1);
  tree = tree;
  integrity = h.integrity;
  ceiling = h.ceiling;
} where
  w : State
  w = with_object_label v o l

  above_parent : (e : Option ℕ) (p : ℕ) → is_above_parent v l e ≡ true → e ≡ Some p → is_above (Some l) (map.get v.object_label p) ≡ true
  above_parent None p above is = cc
  above_parent (Some q) p above is = ap (λ e. is_above_parent v l e) (sym is) ∙ above

  children_fit : each_child v o (λ c. is_above (map.get v.object_label c) (Some l)) ≡ true
  children_fit = (and_parts (is_above_parent v l (map.get v.parent o)) (each_child v o (λ c. is_above (map.get v.object_label c) (Some l))) fits).1

  relabelled_child : (p : ℕ) → map.get v.parent o ≡ Some p → is_above (map.get w.object_label o) (map.get w.object_label p) ≡ true
  relabelled_child p step = by_number o p (λ q. map.get v.parent o ≡ Some q → is_above (map.get w.object_label o) (map.get w.object_label q) ≡ true)
      (λ _. (λ i. is_above (at_new v.object_label o l i) (at_new v.object_label o l i)) ∙ reflexive l)
      (λ other at. (λ i. is_above (at_new v.object_label o l i) (elsewhere v.object_label o l p other i))
      ∙ above_parent (map.get v.parent o) p ((and_parts (is_above_parent v l (map.get v.parent o)) (each_child v o (λ c. is_above (map.get v.object_label c) (Some l))) fits).0) at) step

  other_child : (c p : ℕ) → nat_eq c o ≡ false → map.get v.parent c ≡ Some p → is_above (map.get w.object_label c) (map.get w.object_label p) ≡ true
  other_child c p other step = by_number o p (λ q. map.get v.parent c ≡ Some q → is_above (map.get w.object_label c) (map.get w.object_label q) ≡ true)
      (λ at. (λ i. is_above (elsewhere v.object_label o l c other i) (at_new v.object_label o l i))
      ∙ one_of_children v h.tree o (λ x. is_above (map.get v.object_label x) (Some l)) children_fit c at)
      (λ apart at. (λ i. is_above (elsewhere v.object_label o l c other i) (elsewhere v.object_label o l p apart i))
      ∙ (and_parts (is_above (map.get v.object_label c) (map.get v.object_label p)) _ (h.compatible c p at)).0) step

  still_above : (c p : ℕ) → map.get v.parent c ≡ Some p → is_above (map.get w.object_label c) (map.get w.object_label p) ≡ true
  still_above c p step = by_number o c (λ q. map.get v.parent q ≡ Some p → is_above (map.get w.object_label q) (map.get w.object_label p) ≡ true)
      (λ at. relabelled_child p at)
      (λ other at. other_child c p other at) step
