-- What a deletion takes.
use Rattle.std.proofs.Common.{◌≡◌, ◌↔◌, ℕ, Bool, true, false, not, ◌&&◌, refl, sym, ap, ◌∙◌}
use Rattle.std.proofs.lemmas.Bool.{and_parts}
use Rattle.std.specs.FinMap as map
use Rattle.std.specs.FinSet as set
use Rattle.mls_facts.proofs.Entries.{has-kept, at_kept}
use Rattle.mls_tables.specs.declared.mode.Mode.{Mode}
use Rattle.mls_tables.proofs.Laws.{contains-retain-triple}
use Rattle.mls_tree.specs.Tree.{Reaches, is_inferior}
use Rattle.mls_tree.proofs.Laws.{is_inferior-Reaches}
use Rattle.mls_requests.specs.declared.action.Action.TheVariants.{Delete}
use Rattle.mls_requests.specs.declared.request.Request.{Request}
use Rattle.mls_requests.specs.declared.reply.Reply.TheVariants.{Yes}
use Rattle.mls_state.specs.State.{State, is_subject, is_active}
use Rattle.mls_state.specs.Properties.{IsSecure}
use Rattle.mls_state.specs.Changes.{stays, without_group}
use Rattle.mls_rules.specs.Rules.{reply, after}
use Rattle.mls_laws.specs.Journals.{is_grant}
use Rattle.mls_laws.proofs.Answered.{after_grant}

abbrev pub deletes : ℕ → ℕ → Request
deletes s o = record { subject = s; action = Delete o }

pub after_delete : (v : State) (s o : ℕ) → reply v (deletes s o) ≡ Yes → after v (deletes s o) ≡ without_group v o
after_delete v s o grants = after_grant v (deletes s o) (ap is_grant grants)

goes : (there below : Bool) → there ≡ true → (there && not below) ≡ false → below ≡ true
goes true true there gone = refl
goes true false there gone = cc
goes false below there gone = cc

taken : (there below : Bool) → below ≡ true → (there && not below) ≡ false
taken true true is = refl
taken true false is = cc
taken false below is = refl

module _ (v : State) (s o : ℕ) (h : IsSecure v) (grants : reply v (deletes s o) ≡ Yes) where
  -- what is gone of something that speaks of an active object is what speaks of one that reaches the deleted one
  just_those : (q : ℕ) (there left : Bool) → is_active v q ≡ true → there ≡ true → left ≡ (there && stays v o q) → (left ≡ false) ↔ Reaches v.parent q o
  just_those q there left active is splits =
      let known = is_inferior-Reaches v.parent (is_active v) h.tree.objects q o in (
        λ gone. (known.0 (goes there (is_inferior v.parent q o) is (sym splits ∙ gone))).1,
        λ reaches. splits ∙ taken there (is_inferior v.parent q o) (known.1 (active, reaches)),
      )

  pub objects_taken : (q : ℕ) → is_active v q ≡ true → (is_active (after v (deletes s o)) q ≡ false) ↔ Reaches v.parent q o
  objects_taken q active =
      just_those q (is_active v q) (is_active (after v (deletes s o)) q) active active
      (ap (λ (w : State). is_active w q) (after_delete v s o grants) ∙ has-kept v.object_label (stays v o) q)

  pub accesses_taken : (t q : ℕ) (x : Mode) → set.contains v.accesses (t, q, x) ≡ true
      → (set.contains (after v (deletes s o)).accesses (t, q, x) ≡ false) ↔ Reaches v.parent q o
  accesses_taken t q x there =
      just_those q (set.contains v.accesses (t, q, x)) (set.contains (after v (deletes s o)).accesses (t, q, x))
      ((and_parts (is_subject v t) (is_active v q) (h.tree.accesses_known (t, q, x) there)).1) there
      (ap (λ (w : State). set.contains w.accesses (t, q, x)) (after_delete v s o grants) ∙ contains-retain-triple v.accesses (λ u. stays v o u.1) (t, q, x))

  pub permissions_taken : (t q : ℕ) (x : Mode) → set.contains v.matrix (t, q, x) ≡ true
      → (set.contains (after v (deletes s o)).matrix (t, q, x) ≡ false) ↔ Reaches v.parent q o
  permissions_taken t q x there =
      just_those q (set.contains v.matrix (t, q, x)) (set.contains (after v (deletes s o)).matrix (t, q, x))
      ((and_parts (is_subject v t) (is_active v q) (h.tree.matrix_known (t, q, x) there)).1) there
      (ap (λ (w : State). set.contains w.matrix (t, q, x)) (after_delete v s o grants) ∙ contains-retain-triple v.matrix (λ u. stays v o u.1) (t, q, x))

  -- what stays keeps its labels and its parent
  stays_there : (q : ℕ) → is_active (after v (deletes s o)) q ≡ true → stays v o q ≡ true
  stays_there q left =
      (and_parts (is_active v q) (stays v o q)
      (sym (ap (λ (w : State). is_active w q) (after_delete v s o grants) ∙ has-kept v.object_label (stays v o) q) ∙ left)).1

  pub label_left : (q : ℕ) → is_active (after v (deletes s o)) q ≡ true → map.get (after v (deletes s o)).object_label q ≡ map.get v.object_label q
  label_left q left = ap (λ (w : State). map.get w.object_label q) (after_delete v s o grants) ∙ at_kept v.object_label (stays v o) q (stays_there q left)

  pub integrity_left : (q : ℕ) → is_active (after v (deletes s o)) q ≡ true → map.get (after v (deletes s o)).object_integrity q ≡ map.get v.object_integrity q
  integrity_left q left = ap (λ (w : State). map.get w.object_integrity q) (after_delete v s o grants) ∙ at_kept v.object_integrity (stays v o) q (stays_there q left)

  pub parent_left : (q : ℕ) → is_active (after v (deletes s o)) q ≡ true → map.get (after v (deletes s o)).parent q ≡ map.get v.parent q
  parent_left q left = ap (λ (w : State). map.get w.parent q) (after_delete v s o grants) ∙ at_kept v.parent (stays v o) q (stays_there q left)
