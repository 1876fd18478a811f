-- Each request leaves the tables of labels whole.
use Rattle.std.proofs.Common.{◌≡◌, ℕ, true, nat_eq, ◌&&◌, ◌||◌, ap, sym, ◌∙◌}
use Rattle.std.specs.FinSet as set
use Rattle.mls_labels.specs.Label.{Label}
use Rattle.mls_tables.specs.Triples.{TripleSet}
use Rattle.mls_requests.specs.declared.action.Action.{Action}
use Rattle.mls_requests.specs.declared.action.Action.TheVariants.{Get, Release, Give, Rescind, Create, Delete, SubjectLevel, ObjectLevel}
use Rattle.mls_requests.specs.declared.request.Request.{Request}
use Rattle.mls_state.specs.State.{State, is_subject, is_active}
use Rattle.mls_state.specs.Properties.{HasWholeTables}
use Rattle.mls_state.specs.Changes.{with_current, with_object_label, stays}
use Rattle.mls_rules.specs.Rules.{change, after, names_known}
use Rattle.std.proofs.lemmas.Bool.{and_parts}
use Rattle.mls_facts.proofs.Entries.{has-inserted, has-kept, has-replaced}
use Rattle.mls_rules.proofs.TreeKept.{names_object}
use Rattle.mls_rules.proofs.AfterKeeps.{after_keeps}

-- other triples leave the tables of labels as they are
triples_whole : (v : State) (accesses matrix : TripleSet) → HasWholeTables v → HasWholeTables (record v { accesses = accesses; matrix = matrix })
triples_whole v accesses matrix h =
    record { current = h.current; subject_integrity = h.subject_integrity; trusted = h.trusted; object_integrity = h.object_integrity }

-- both tables of labels of objects have one number more
create_whole : (v : State) (s p : ℕ) (l i : Label) → HasWholeTables v → HasWholeTables (change v s (Create p l i))
create_whole v s p l i h = record {
  current = h.current;
  subject_integrity = h.subject_integrity;
  trusted = h.trusted;
  object_integrity = λ o.
      has-inserted v.object_integrity v.next i o
      ∙ ap (λ b. nat_eq o v.next || b) (h.object_integrity o)
      ∙ sym (has-inserted v.object_label v.next l o);
}

-- both tables of labels of objects lose the same numbers
delete_whole : (v : State) (s o : ℕ) → HasWholeTables v → HasWholeTables (change v s (Delete o))
delete_whole v s o h = record {
  current = h.current;
  subject_integrity = h.subject_integrity;
  trusted = h.trusted;
  object_integrity = λ x.
      has-kept v.object_integrity (stays v o) x
      ∙ ap (λ b. b && stays v o x) (h.object_integrity x)
      ∙ sym (has-kept v.object_label (stays v o) x);
}

-- the table of current labels has another value for a number that it has
subject_level_whole : (v : State) (s : ℕ) (l : Label) → HasWholeTables v → is_subject v s ≡ true → HasWholeTables (with_current v s l)
subject_level_whole v s l h known = record {
  current = λ q. has-replaced v.current s l q (h.current s ∙ known) ∙ h.current q;
  subject_integrity = h.subject_integrity;
  trusted = h.trusted;
  object_integrity = h.object_integrity;
}

-- and so has that of the objects' security labels
object_level_whole : (v : State) (o : ℕ) (l : Label) → HasWholeTables v → is_active v o ≡ true → HasWholeTables (with_object_label v o l)
object_level_whole v o l h active = record {
  current = h.current;
  subject_integrity = h.subject_integrity;
  trusted = h.trusted;
  object_integrity = λ x. h.object_integrity x ∙ sym (has-replaced v.object_label o l x active);
}

-- a granted change keeps the tables of labels whole
pub change_whole : (v : State) (s : ℕ) (a : Action) → HasWholeTables v → (is_subject v s && names_known v a) ≡ true
    → HasWholeTables (change v s a)
change_whole v s (Get x o) h known = triples_whole v (set.insert v.accesses (s, o, x)) v.matrix h
change_whole v s (Release x o) h known = triples_whole v (set.remove v.accesses (s, o, x)) v.matrix h
change_whole v s (Give x t o) h known = triples_whole v v.accesses (set.insert v.matrix (t, o, x)) h
change_whole v s (Rescind x t o) h known = triples_whole v (set.remove v.accesses (t, o, x)) (set.remove v.matrix (t, o, x)) h
change_whole v s (Create p l i) h known = create_whole v s p l i h
change_whole v s (Delete o) h known = delete_whole v s o h
change_whole v s (SubjectLevel l) h known = subject_level_whole v s l h ((and_parts (is_subject v s) (names_known v (SubjectLevel l)) known).0)
change_whole v s (ObjectLevel o l) h known = object_level_whole v o l h (names_object v s o l known)

-- Each request leaves the tables of labels whole.
pub after_whole : (v : State) (r : Request) → HasWholeTables v → HasWholeTables (after v r)
after_whole v r h = after_keeps HasWholeTables v r h (λ granted. change_whole v r.subject r.action h granted.0)
