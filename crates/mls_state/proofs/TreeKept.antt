-- A change of the objects leaves them a tree, and the triples known.
use Rattle.std.proofs.Common.{◌≡◌, ℕ, true, nat_eq, ◌<◌, refl, sym, ap, subst, ◌∙◌}
use Rattle.std.proofs.lemmas.Bool.{and_parts, and_from, or_right}
use Rattle.std.specs.FinMap as map
use Rattle.std.specs.FinSet as set
use Rattle.mls_facts.proofs.Entries.{has-inserted, has-kept, has-replaced}
use Rattle.mls_labels.specs.Label.{Label}
use Rattle.mls_tables.specs.Triples.{Triple, TripleSet}
use Rattle.mls_tables.specs.declared.limits.TheConstants.{MAX_OBJECTS}
use Rattle.mls_tree.specs.Tree.{IsTree, HasNext}
use Rattle.mls_tree.proofs.Laws.{IsTree-insert, IsTree-retain, next_free, HasNext-insert, HasNext-retain}
use Rattle.mls_state.specs.State.{State, is_subject, is_active}
use Rattle.mls_state.specs.Properties.{Each, HasTree, is_known}
use Rattle.mls_state.specs.Changes.{with_object_label, with_object, stays, without_group}
use Rattle.mls_state.proofs.EachTriple.{kept_there, kept_passes}

-- a known triple stays known where its object stays active
pub known_still : (v w : State) (t : Triple) → w.maximum ≡ v.maximum → (is_active v t.1 ≡ true → is_active w t.1 ≡ true)
    → is_known v t ≡ true → is_known w t ≡ true
known_still v w t same still known =
    let subject : is_subject w t.0 ≡ true = ap (λ m. map.contains_key m t.0) same ∙ (and_parts (is_subject v t.0) (is_active v t.1) known).0 in
    and_from (is_subject w t.0) (is_active w t.1) subject (still ((and_parts (is_subject v t.0) (is_active v t.1) known).1))

-- an object more below an active one
pub grown_tree : (v : State) (p : ℕ) (l i : Label) → HasTree v → is_active v p ≡ true → v.next < MAX_OBJECTS → HasTree (with_object v p l i)
grown_tree v p l i h parent room =
    let w : State = with_object v p l i in
    let grows = has-inserted v.object_label v.next l in
    let still = λ (o : ℕ) (is : is_active v o ≡ true). grows o ∙ or_right (nat_eq o v.next) (is_active v o) is in
    record {
      objects = IsTree-insert v.parent (is_active v) v.next p h.objects (next_free v.profile (is_active v) v.next h.next room) (is_active w) grows parent room;
      next = HasNext-insert v.profile (is_active v) (is_active w) v.next h.next room grows;
      accesses_known = λ t there. known_still v w t refl (still t.1) (h.accesses_known t there);
      matrix_known = λ t there. known_still v w t refl (still t.1) (h.matrix_known t there);
    }

-- to delete takes the inferiors out, and the triples that name them
pub delete_tree : (v : State) (o : ℕ) → HasTree v → (o ≡ 0 → ⊥) → HasTree (without_group v o)
delete_tree v o h other =
    let w : State = without_group v o in
    let leaves = has-kept v.object_label (stays v o) in
    let passes = λ (t : Triple). stays v o t.1 in
    let still = λ (x : ℕ) (kept : stays v o x ≡ true) (is : is_active v x ≡ true).
    leaves x ∙ and_from (is_active v x) (stays v o x) is kept in
    let known = λ (b : TripleSet) (all : Each b (is_known v)) (t : Triple) (there : set.contains (set.retain b passes) t ≡ true).
    known_still v w t refl (still t.1 (kept_passes b passes t there)) (all t (kept_there b passes t there)) in
    record {
      objects = IsTree-retain v.parent (is_active v) h.objects o other (is_active w) leaves;
      next = HasNext-retain v.profile (is_active v) (is_active w) v.next h.next (λ x is. (and_parts (is_active v x) (stays v o x) (sym (leaves x) ∙ is)).0);
      accesses_known = known v.accesses h.accesses_known;
      matrix_known = known v.matrix h.matrix_known;
    }

-- to relabel an object leaves the same objects active
pub relabel_tree : (v : State) (o : ℕ) (l : Label) → HasTree v → is_active v o ≡ true → HasTree (with_object_label v o l)
relabel_tree v o l h active =
    let w : State = with_object_label v o l in
    let same = λ (x : ℕ). has-replaced v.object_label o l x active in
    record {
      objects = subst (IsTree v.parent) (λ i x. sym (same x) i) h.objects;
      next = subst (λ is. HasNext v.profile is v.next) (λ i x. sym (same x) i) h.next;
      accesses_known = λ t there. known_still v w t refl (λ is. same t.1 ∙ is) (h.accesses_known t there);
      matrix_known = λ t there. known_still v w t refl (λ is. same t.1 ∙ is) (h.matrix_known t there);
    }
