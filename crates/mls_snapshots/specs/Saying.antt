-- The rows that say all of a state.
use Rattle.std.specs.Prelude.{◌≡◌, ℕ, Option, Some, None, slice_index_or}
use Rattle.std.specs.FinMap as map
use Rattle.std.specs.FinSet as set
use Rattle.mls_facts.specs.Numbered.{numbered, places_of}
use Rattle.mls_labels.specs.Label.{Label}
use Rattle.mls_state.specs.First.{with_triples}
use Rattle.mls_state.specs.State.{State}
use Rattle.mls_snapshots.specs.declared.state_line.ObjectParts.{ObjectParts}
use Rattle.mls_snapshots.specs.declared.state_rows.StateRows.{StateRows}

-- What is said of an object: its labels and its parent; nothing where a label is missing. (own)
abbrev pub parts_of : Option Label → Option Label → Option ℕ → Option ObjectParts
parts_of (Some security) (Some integrity) parent = Some (record {
  labels = record { security = security; integrity = integrity };
  parent = parent;
})
parts_of (Some security) None parent = None
parts_of None integrity parent = None

-- What a state has of an object; nothing where it isn't active. (own)
abbrev pub object_of : State → ℕ → Option ObjectParts
object_of v o = parts_of (map.get v.object_label o) (map.get v.object_integrity o) (map.get v.parent o)

-- The rows say all of a state but its bounds: of each subject, each object and each triple what the state has, and
-- nothing more. (own)
pub record SaysAll (v : State) (rows : StateRows) : Type 0 where
  pub profile : rows.profile ≡ v.profile
  pub next : rows.next ≡ v.next
  pub maximum : numbered (λ s. Some s.maximum) rows.subjects.items ≡ v.maximum
  pub current : numbered (λ s. Some s.current) rows.subjects.items ≡ v.current
  pub integrity : numbered (λ s. Some s.integrity) rows.subjects.items ≡ v.subject_integrity
  pub trusted : places_of (λ s. s.trusted) rows.subjects.items ≡ v.trusted
  pub objects : (o : ℕ) → slice_index_or rows.objects.items o None ≡ object_of v o
  pub matrix : with_triples set.empty rows.cells.items ≡ v.matrix
  pub accesses : with_triples set.empty rows.accesses.items ≡ v.accesses
