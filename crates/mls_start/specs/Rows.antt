-- The rows of a start: what the calls on a start builder gave, and the state that opens with just them.
use Rattle.std.specs.Prelude.{◌≡◌, ℕ, ◌+◌, List, ◌∷◌, length, map, Option, Some, None, refl}
use Rattle.std.specs.FinSet as set
use Rattle.std.specs.Coded.{Coded, code_by, coded×, coded_list}
use Rattle.mls_facts.specs.Numbered.{numbered, places_of}
use Rattle.mls_labels.specs.Label.{Bounds, bounds_code}
use Rattle.mls_tables.specs.Triples.{TripleSet, triple_set_code}
use Rattle.mls_tree.specs.declared.profile.Profile.{Profile}
use Rattle.mls_tree.specs.contracts.profile.Profile as profiles
use Rattle.mls_state.specs.declared.subject.Subject.{Subject}
use Rattle.mls_state.specs.declared.subject.ObjectLabels.{ObjectLabels}
use Rattle.mls_start.specs.declared.counts.Counts.{Counts}
use Rattle.mls_start.specs.declared.object_row.ObjectRow.{ObjectRow}
use Rattle.mls_state.specs.contracts.subject.Subject as subject
use Rattle.mls_state.specs.contracts.subject.ObjectLabels as object_labels
use Rattle.mls_start.specs.contracts.object_row.ObjectRow as object_row
use Rattle.mls_state.specs.State.{State}

-- The rows of a start: the bounds of its labels, the profile, the root's labels, the subjects and the objects below the
-- root in the order of their numbers, the triples that the matrix permits, and the triples that are current accesses.
-- (own)
pub record Rows : Type 0 where
  pub security : Bounds
  pub integrity : Bounds
  pub profile : Profile
  pub root : ObjectLabels
  pub subjects : List Subject
  pub objects : List ObjectRow
  pub cells : TripleSet
  pub accesses : TripleSet

-- How many objects there are, with the root. (own)
abbrev pub object_count : Rows → ℕ
object_count rows = 1 + length rows.objects

-- The labels of a root and of the objects below it, in the order of their numbers. (own)
abbrev pub all_labels : ObjectLabels → List ObjectRow → List ObjectLabels
all_labels root objects = root ∷ map (λ o. o.labels) objects

-- The labels of the objects in the order of their numbers, the root's first. (own)
abbrev pub labels_of : Rows → List ObjectLabels
labels_of rows = all_labels rows.root rows.objects

-- The parents of the objects in the order of their numbers: the root has none. (own)
abbrev pub parents_of : Rows → List (Option ℕ)
parents_of rows = None ∷ map (λ o. Some o.parent) rows.objects

-- Opening: the state of the rows. The subjects have their places as numbers, from 0, and the objects from 1, after the
-- root; the matrix permits just the cells, and the accesses are just those of the rows. (own)
unfoldable pub opening : Rows → State
opening rows = record {
  accesses = rows.accesses;
  matrix = rows.cells;
  maximum = numbered (λ s. Some s.maximum) rows.subjects;
  current = numbered (λ s. Some s.current) rows.subjects;
  subject_integrity = numbered (λ s. Some s.integrity) rows.subjects;
  trusted = places_of (λ s. s.trusted) rows.subjects;
  object_label = numbered (λ o. Some o.security) (labels_of rows);
  object_integrity = numbered (λ o. Some o.integrity) (labels_of rows);
  parent = numbered (λ parent. parent) (parents_of rows);
  profile = rows.profile;
  next = object_count rows;
  security = rows.security;
  integrity = rows.integrity;
}

-- How many triples the rows have of each kind. (own)
pub record AreCounts (rows : Rows) (counts : Counts) : Type 0 where
  pub cells : counts.cells ≡ set.len rows.cells
  pub accesses : counts.accesses ≡ set.len rows.accesses

-- The rows that speak of subjects, of objects and of triples. (own)
abbrev Parts : Type 0
Parts = List Subject × (List ObjectRow × (TripleSet × TripleSet))

-- How these are stored: as the tuple of them. (own)
abbrev parts_code : Coded Parts
parts_code =
    coded× (coded_list subject.the_row.coded)
    (coded× (coded_list object_row.the_row.coded) (coded× triple_set_code triple_set_code))

-- How rows are stored: as the tuple of their parts. (own)
abbrev pub rows_code : Coded Rows
rows_code = code_by ((Bounds × Bounds) × ((Profile × ObjectLabels) × Parts))
    (coded× (coded× bounds_code bounds_code)
    (coded× (coded× profiles.the_row.coded object_labels.the_row.coded) parts_code))
    (λ rows. (
      (rows.security, rows.integrity),
      ((rows.profile, rows.root), (rows.subjects, (rows.objects, (rows.cells, rows.accesses)))),
    ))
    (λ p. record {
      security = p.0.0;
      integrity = p.0.1;
      profile = p.1.0.0;
      root = p.1.0.1;
      subjects = p.1.1.0;
      objects = p.1.1.1.0;
      cells = p.1.1.1.1.0;
      accesses = p.1.1.1.1.1;
    })
    (λ _. refl)
