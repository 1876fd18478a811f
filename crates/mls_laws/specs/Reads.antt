-- What can be read of a state.
use Rattle.std.specs.Prelude.{◌≡◌, ℕ, IsTrue}
use Rattle.std.specs.FinMap as map
use Rattle.std.specs.FinSet as set
use Rattle.mls_tables.specs.declared.mode.Mode.{Mode}
use Rattle.mls_state.specs.State.{State, is_subject, is_active}

-- The public reads of two states agree, each where it may be called: those of a subject at known subjects, those of an
-- object at active ones. How many subjects there are and which children an object has follows from these. (own)
pub record ReadsAgree (v w : State) : Type 0 where
  pub subjects : (s : ℕ) → is_subject v s ≡ is_subject w s
  pub objects : (o : ℕ) → is_active v o ≡ is_active w o
  pub maximum : (s : ℕ) → IsTrue (is_subject v s) → map.get v.maximum s ≡ map.get w.maximum s
  pub current : (s : ℕ) → IsTrue (is_subject v s) → map.get v.current s ≡ map.get w.current s
  pub subject_integrity : (s : ℕ) → IsTrue (is_subject v s)
      → map.get v.subject_integrity s ≡ map.get w.subject_integrity s
  pub trusted : (s : ℕ) → IsTrue (is_subject v s) → set.contains v.trusted s ≡ set.contains w.trusted s
  pub object_label : (o : ℕ) → IsTrue (is_active v o) → map.get v.object_label o ≡ map.get w.object_label o
  pub object_integrity : (o : ℕ) → IsTrue (is_active v o) → map.get v.object_integrity o ≡ map.get w.object_integrity o
  pub parent : (o : ℕ) → IsTrue (is_active v o) → map.get v.parent o ≡ map.get w.parent o
  pub allowed : (s o : ℕ) (x : Mode) → IsTrue (is_subject v s) → IsTrue (is_active v o)
      → set.contains v.matrix (s, o, x) ≡ set.contains w.matrix (s, o, x)
  pub accesses : (s o : ℕ) (x : Mode) → IsTrue (is_subject v s) → IsTrue (is_active v o)
      → set.contains v.accesses (s, o, x) ≡ set.contains w.accesses (s, o, x)
  pub profile : v.profile ≡ w.profile
  pub next : v.next ≡ w.next
  pub security : v.security ≡ w.security
  pub integrity : v.integrity ≡ w.integrity
