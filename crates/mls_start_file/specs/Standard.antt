-- The standard start: its names, and its rows in the order of their numbers.
use Rattle.std.specs.Prelude.{ℕ, true, false, List, [], ◌∷◌, codes}
use Rattle.std.specs.FinSet as set
use Rattle.mls_labels.specs.Label.{Label}
use Rattle.mls_labels.specs.Scheme.{Scheme, bounds_of}
use Rattle.mls_tables.specs.Triples.{Triple}
use Rattle.mls_tables.specs.declared.mode.Mode.TheVariants.{Execute, Read, Append, Write}
use Rattle.mls_tree.specs.declared.profile.Profile.TheVariants.{One}
use Rattle.mls_state.specs.declared.subject.Subject.{Subject}
use Rattle.mls_start.specs.declared.object_row.ObjectRow.{ObjectRow}
use Rattle.mls_start.specs.Rows.{Rows}
use Rattle.mls_lines.specs.Names.{Names}

-- The standard start's levels and categories of security, from the lowest level up. (own)
abbrev pub standard_security : Scheme
standard_security = record {
  levels = codes "U" ∷ codes "C" ∷ codes "S" ∷ codes "T" ∷ [];
  categories = codes "A" ∷ codes "B" ∷ [];
}

-- The standard start's levels of integrity, from the lowest up. It has no category. (own)
abbrev pub standard_integrity : Scheme
standard_integrity = record { levels = codes "lo" ∷ codes "hi" ∷ []; categories = [] }

-- The names of the standard start's subjects and objects, in the order of their numbers, and its schemes of labels.
-- (own)
abbrev pub standard_names : Names
standard_names = record {
  subjects = codes "ann" ∷ codes "bob" ∷ codes "sec" ∷ codes "aud" ∷ [];
  objects = codes "root" ∷ codes "plans" ∷ codes "memo" ∷ codes "tool" ∷ [];
  security = standard_security;
  integrity = standard_integrity;
}

-- A label without categories. (own)
abbrev pub plain : ℕ → Label
plain level = record { level = level; categories = set.empty }

-- Level 2 with category 0. (own)
abbrev pub secret : Label
secret = record { level = 2; categories = set.insert set.empty 0 }

-- Level 3 with the categories 0 and 1. (own)
abbrev pub top : Label
top = record { level = 3; categories = set.insert (set.insert set.empty 0) 1 }

-- The subjects ann, bob, sec and aud. (own)
abbrev pub standard_subjects : List Subject
standard_subjects =
    (record { maximum = secret; current = secret; integrity = plain 1; trusted = false })
    ∷ (record { maximum = plain 1; current = plain 0; integrity = plain 0; trusted = false })
    ∷ (record { maximum = top; current = plain 0; integrity = plain 1; trusted = true })
    ∷ (record { maximum = secret; current = plain 0; integrity = plain 1; trusted = true })
    ∷ []

-- The objects plans, memo and tool, all below the root. (own)
abbrev pub standard_objects : List ObjectRow
standard_objects =
    (record { parent = 0; labels = record { security = secret; integrity = plain 1 } })
    ∷ (record { parent = 0; labels = record { security = plain 1; integrity = plain 0 } })
    ∷ (record { parent = 0; labels = record { security = plain 0; integrity = plain 0 } })
    ∷ []

-- The cells of the matrix, in the order of the subjects. (own)
abbrev pub standard_cells : List Triple
standard_cells =
    (0, 1, Read) ∷ (0, 1, Write) ∷ (0, 2, Read) ∷ (0, 3, Execute)
    ∷ (1, 2, Read) ∷ (1, 1, Append) ∷ (1, 3, Execute)
    ∷ (2, 0, Write) ∷ (2, 1, Write) ∷ (2, 2, Append) ∷ (2, 2, Write)
    ∷ (3, 1, Read)
    ∷ []

-- The rows of the standard start: those subjects, objects and cells, a root without secrets, the bounds of the two
-- schemes, profile 1 and no access. (own)
abbrev pub standard_rows : Rows
standard_rows = record {
  security = bounds_of standard_security;
  integrity = bounds_of standard_integrity;
  root = record { security = plain 0; integrity = plain 1 };
  subjects = standard_subjects;
  objects = standard_objects;
  cells = set.from_list standard_cells;
  accesses = set.empty;
  profile = One;
}
