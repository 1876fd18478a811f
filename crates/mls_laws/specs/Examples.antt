-- A start to try the laws on, and requests to it.
use Rattle.std.specs.Prelude.{ℕ, true, false, List, [], ◌∷◌}
use Rattle.std.specs.FinSet as set
use Rattle.mls_labels.specs.Label.{Label}
use Rattle.mls_tables.specs.Triples.{Triple}
use Rattle.mls_tables.specs.declared.mode.Mode.TheVariants.{Execute, Read, Write}
use Rattle.mls_requests.specs.declared.action.Action.TheVariants.{Get, Release}
use Rattle.mls_requests.specs.declared.request.Request.{Request}
use Rattle.mls_requests.specs.declared.reply.Reply.TheVariants.{Yes}
use Rattle.mls_requests.specs.declared.entry.Entry.{Entry}
use Rattle.mls_tree.specs.declared.profile.Profile.TheVariants.{One}
use Rattle.mls_state.specs.declared.subject.Subject.{Subject}
use Rattle.mls_start.specs.declared.object_row.ObjectRow.{ObjectRow}
use Rattle.mls_start.specs.Rows.{Rows}

-- The label of a level, without categories. (own)
abbrev pub plain : ℕ → Label
plain level = record { level = level; categories = set.empty }

-- Subject 0, ann, works at level 2. Subject 1, bob, may work at level 1 and works at 0. Subject 2, sec, is trusted and
-- works at level 3. (own)
abbrev pub example_subjects : List Subject
example_subjects =
    (record { maximum = plain 2; current = plain 2; integrity = plain 1; trusted = false })
    ∷ (record { maximum = plain 1; current = plain 0; integrity = plain 1; trusted = false })
    ∷ (record { maximum = plain 3; current = plain 3; integrity = plain 1; trusted = true })
    ∷ []

-- Object 1, plans, is of level 2; object 2, memo, of level 1; object 3, draft, of level 0 and of low integrity. All are
-- below the root. (own)
abbrev pub example_objects : List ObjectRow
example_objects =
    (record { parent = 0; labels = record { security = plain 2; integrity = plain 1 } })
    ∷ (record { parent = 0; labels = record { security = plain 1; integrity = plain 1 } })
    ∷ (record { parent = 0; labels = record { security = plain 0; integrity = plain 0 } })
    ∷ []

-- What the matrix permits: ann reads the root, reads and writes plans, and executes draft; bob reads plans and memo;
-- sec writes the root and reads memo. (own)
abbrev pub example_cells : List Triple
example_cells =
    (0, 0, Read) ∷ (0, 1, Read) ∷ (0, 1, Write) ∷ (0, 3, Execute) ∷ (1, 1, Read) ∷ (1, 2, Read) ∷ (2, 0, Write)
    ∷ (2, 2, Read) ∷ []

-- The rows of the start. (own)
abbrev pub example_rows : Rows
example_rows = record {
  security = record { levels = 4; categories = 0 };
  integrity = record { levels = 2; categories = 0 };
  root = record { security = plain 0; integrity = plain 1 };
  subjects = example_subjects;
  objects = example_objects;
  cells = set.from_list example_cells;
  accesses = set.empty;
  profile = One;
}

-- Request: ann asks to read plans. (own)
abbrev pub ann_reads_plans : Request
ann_reads_plans = record { subject = 0; action = Get Read 1 }

-- Request: ann asks to release that. (own)
abbrev pub ann_releases_plans : Request
ann_releases_plans = record { subject = 0; action = Release Read 1 }

-- Request: bob asks to write plans. (own)
abbrev pub bob_writes_plans : Request
bob_writes_plans = record { subject = 1; action = Get Write 1 }

-- A journal in which ann is granted to read plans. (own)
abbrev pub ann_read : List Entry
ann_read = record { number = 0; session = 0; reply = Yes; request = ann_reads_plans } ∷ []

-- And one in which ann then releases it. (own)
abbrev pub ann_released : List Entry
ann_released =
    record { number = 0; session = 0; reply = Yes; request = ann_reads_plans }
    ∷ record { number = 1; session = 0; reply = Yes; request = ann_releases_plans }
    ∷ []
