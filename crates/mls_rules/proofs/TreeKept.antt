-- Each request leaves the objects a tree, and the triples known.
use Rattle.std.proofs.Common.{◌≡◌, ℕ, true, false, not, ◌&&◌, ◌==◌, nat_eq, ap, arith}
use Rattle.std.proofs.lemmas.Bool.Decides.{nat_tests}
use Rattle.mls_labels.specs.Label.{Label, has_label}
use Rattle.mls_requests.specs.declared.action.Action.{Action}
use Rattle.mls_requests.specs.declared.action.Action.TheVariants.{Get, Release, Give, Rescind, Create, Delete, SubjectLevel, ObjectLevel}
use Rattle.mls_requests.specs.declared.request.Request.{Request}
use Rattle.mls_state.specs.State.{State, is_subject, is_active}
use Rattle.mls_state.specs.Properties.{HasTree, is_known}
use Rattle.mls_rules.specs.Rules.{conditions, change, after, names_known, AllHold}
use Rattle.mls_state.proofs.Laws.{Each-insert, Each-remove, delete_tree, grown_tree, relabel_tree}
use Rattle.std.proofs.lemmas.Bool.{and_parts}
use Rattle.mls_rules.proofs.AfterKeeps.{after_keeps}

not_zero : (o : ℕ) → not (o == 0) ≡ true → o ≡ 0 → ⊥
not_zero o other root = let same : nat_eq o 0 ≡ true = grind (arith, nat_tests) in let no : not (nat_eq o 0) ≡ false = ap not same in cc

-- a relabelling in the domain names an active object
pub names_object : (v : State) (s o : ℕ) (l : Label) → (is_subject v s && names_known v (ObjectLevel o l)) ≡ true → is_active v o ≡ true
names_object v s o l known =
    (and_parts (is_active v o) (has_label v.security l) ((and_parts (is_subject v s) (names_known v (ObjectLevel o l)) known).1)).0

-- a creation in the domain names an active parent
pub names_parent : (v : State) (s p : ℕ) (l i : Label) → (is_subject v s && names_known v (Create p l i)) ≡ true → is_active v p ≡ true
names_parent v s p l i known =
    (and_parts (is_active v p) (has_label v.security l && has_label v.integrity i) ((and_parts (is_subject v s) (names_known v (Create p l i)) known).1)).0

-- a granted change keeps the tree
pub change_tree : (v : State) (s : ℕ) (a : Action) → HasTree v → (is_subject v s && names_known v a) ≡ true
    → AllHold (conditions v s a) → HasTree (change v s a)
change_tree v s (Get x o) h known holds = record {
  objects = h.objects;
  next = h.next;
  accesses_known = Each-insert v.accesses (s, o, x) (is_known v) h.accesses_known known;
  matrix_known = h.matrix_known;
}
change_tree v s (Release x o) h known holds = record {
  objects = h.objects;
  next = h.next;
  accesses_known = Each-remove v.accesses (s, o, x) (is_known v) h.accesses_known;
  matrix_known = h.matrix_known;
}
change_tree v s (Give x t o) h known holds = record {
  objects = h.objects;
  next = h.next;
  accesses_known = h.accesses_known;
  matrix_known = Each-insert v.matrix (t, o, x) (is_known v) h.matrix_known ((and_parts (is_subject v s) (is_known v (t, o, x)) known).1);
}
change_tree v s (Rescind x t o) h known holds = record {
  objects = h.objects;
  next = h.next;
  accesses_known = Each-remove v.accesses (t, o, x) (is_known v) h.accesses_known;
  matrix_known = Each-remove v.matrix (t, o, x) (is_known v) h.matrix_known;
}
change_tree v s (Create p l i) h known (authority, (compatible, (integrity, (room, u)))) =
    grown_tree v p l i h (names_parent v s p l i known) (grind (arith, nat_tests, room))
change_tree v s (Delete o) h known (not_root, u) = delete_tree v o h (not_zero o not_root)
change_tree v s (SubjectLevel l) h known holds = record { objects = h.objects; next = h.next; accesses_known = h.accesses_known; matrix_known = h.matrix_known }
change_tree v s (ObjectLevel o l) h known holds = relabel_tree v o l h (names_object v s o l known)

-- Each request leaves the objects a tree, and the triples known, also from a state that isn't secure.
pub after_tree : (v : State) (r : Request) → HasTree v → HasTree (after v r)
after_tree v r h = after_keeps HasTree v r h (λ granted. change_tree v r.subject r.action h granted.0 granted.1)
