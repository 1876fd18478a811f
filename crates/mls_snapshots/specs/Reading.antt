-- States that are read.
use Rattle.std.specs.Prelude.{◌≡◌, ℕ, List, IsTrue, IfSome}
use Rattle.std.specs.FinMap as map
use Rattle.std.specs.FinSet as set
use Rattle.mls_labels.specs.Label.{has_label}
use Rattle.mls_lines.specs.Names.{Names}
use Rattle.mls_start_file.specs.Ties.{AreTied, HasFewNames}
use Rattle.mls_state.specs.Properties.{HasTree, HasWholeTables}
use Rattle.mls_state.specs.State.{State}
use Rattle.mls_wording.specs.ReadBack.{HasNames}
use Rattle.mls_snapshots.specs.States.{state_text}

-- A subject has the same maximum and integrity labels in two states, and is trusted in both or in neither. (own)
pub record IsFixedSubject (v w : State) (s : ℕ) : Type 0 where
  pub maximum : map.get w.maximum s ≡ map.get v.maximum s
  pub integrity : map.get w.subject_integrity s ≡ map.get v.subject_integrity s
  pub trusted : set.contains w.trusted s ≡ set.contains v.trusted s

-- Two states have the same subjects, with the same maximum and integrity labels, and trust the same. (own)
pub record HasFixedSubjects (v w : State) : Type 0 where
  pub maximum : w.maximum ≡ v.maximum
  pub integrity : w.subject_integrity ≡ v.subject_integrity
  pub trusted : w.trusted ≡ v.trusted

-- A state has what no rule changes of a start: the profile, the bounds of labels, and of subjects all but their current
-- labels. (own)
pub record IsOfStart (start v : State) : Type 0 where
  pub profile : v.profile ≡ start.profile
  pub security : v.security ≡ start.security
  pub integrity : v.integrity ≡ start.integrity
  pub subjects : HasFixedSubjects start v

-- The labels of a subject are within the bounds of a state. (own)
pub record IsSubjectWithin (v : State) (s : ℕ) : Type 0 where
  pub maximum : IfSome (map.get v.maximum s) (λ l. IsTrue (has_label v.security l))
  pub current : IfSome (map.get v.current s) (λ l. IsTrue (has_label v.security l))
  pub integrity : IfSome (map.get v.subject_integrity s) (λ l. IsTrue (has_label v.integrity l))

-- The labels of an object are within the bounds of a state. (own)
pub record IsObjectWithin (v : State) (o : ℕ) : Type 0 where
  pub security : IfSome (map.get v.object_label o) (λ l. IsTrue (has_label v.security l))
  pub integrity : IfSome (map.get v.object_integrity o) (λ l. IsTrue (has_label v.integrity l))

-- All labels of a state are within its bounds. (own)
pub record HasLabelsWithin (v : State) : Type 0 where
  pub subjects : (s : ℕ) → IsSubjectWithin v s
  pub objects : (o : ℕ) → IsObjectWithin v o

-- A state stands over a start: it is of the start, its objects are a tree and its tables agree, and all its labels are
-- within its bounds. (own)
pub record IsOver (opening v : State) : Type 0 where
  pub start : IsOfStart opening v
  pub tree : HasTree v
  pub whole : HasWholeTables v
  pub labels : HasLabelsWithin v

-- Names are those of a start: they are NAMEs, each stands once, they go with the start, and there are no more than
-- there may be. (own)
pub record AreNamesOf (names : Names) (start : State) : Type 0 where
  pub has : HasNames names
  pub tied : AreTied names start
  pub few : HasFewNames names

-- A text is what is written of a state over a start, with the names of that start. (own)
pub record IsTextOver (names : Names) (start v : State) (text : List ℕ) : Type 0 where
  pub named : AreNamesOf names start
  pub over : IsOver start v
  pub written : state_text names v ≡ text
