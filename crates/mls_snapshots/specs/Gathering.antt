-- What the rows of a text say, thing by thing.
use Rattle.std.specs.Prelude.{◌≡◌, ℕ, List, [], ◌∷◌, ◌++◌, length, Option, Some, None, slice_index_or, slice_set}
use Rattle.mls_state.specs.declared.subject.Subject.{Subject}
use Rattle.mls_state.specs.declared.table.Table.TheVariants.{Matrix, Accesses}
use Rattle.mls_tables.specs.Triples.{Triple}
use Rattle.mls_tables.specs.declared.limits.TheConstants.{MAX_OBJECTS}
use Rattle.mls_tree.specs.declared.profile.Profile.{Profile}
use Rattle.mls_snapshots.specs.declared.state_line.ObjectParts.{ObjectParts}
use Rattle.mls_snapshots.specs.declared.state_line.StateLine.{StateLine}
use Rattle.mls_snapshots.specs.declared.state_line.StateLine.TheVariants as line
use Rattle.mls_snapshots.specs.declared.state_rows.StateRows.{StateRows}
use Rattle.mls_snapshots.specs.Rows.{Row, said_of}

-- What is said so far: the profile, the next number, the subjects in their order, the objects by their numbers, and the
-- triples of the two tables. (own)
pub record Said : Type 0 where
  pub profile : Profile
  pub next : ℕ
  pub subjects : List Subject
  pub objects : List (Option ObjectParts)
  pub cells : List Triple
  pub accesses : List Triple

-- What rows of the program say. (own)
abbrev pub said_by : StateRows → Said
said_by rows = record {
  profile = rows.profile;
  next = rows.next;
  subjects = rows.subjects.items;
  objects = rows.objects.items;
  cells = rows.cells.items;
  accesses = rows.accesses.items;
}

-- What was said, with one line more. (own)
abbrev pub with_line : Said → StateLine → Said
with_line a (line.Profile p) = record a { profile = p }
with_line a (line.Next n) = record a { next = n }
with_line a (line.Subject s) = record a { subjects = a.subjects ++ s ∷ [] }
with_line a (line.Object o parts) = record a { objects = slice_set a.objects o (Some parts) }
with_line a (line.Triple Matrix t) = record a { cells = a.cells ++ t ∷ [] }
with_line a (line.Triple Accesses t) = record a { accesses = a.accesses ++ t ∷ [] }

-- What was said, with the lines of some rows more. (own)
abbrev pub with_rows : Said → List Row → Said
with_rows a [] = a
with_rows a (row ∷ rows) = with_rows (with_line a (said_of row)) rows

-- There is a place for each object, and nothing is said of any. (own)
pub record IsVacant (objects : List (Option ObjectParts)) : Type 0 where
  pub room : length objects ≡ MAX_OBJECTS
  pub none : (o : ℕ) → slice_index_or objects o None ≡ None

-- Nothing is said of subjects, objects and triples. (own)
pub record IsUnsaid (a : Said) : Type 0 where
  pub subjects : a.subjects ≡ []
  pub objects : IsVacant a.objects
  pub cells : a.cells ≡ []
  pub accesses : a.accesses ≡ []

-- What was said is what some rows say. (own)
abbrev pub Says : Said → List Row → Type 0
Says a rows = (first : Said) × IsUnsaid first × (a ≡ with_rows first rows)
