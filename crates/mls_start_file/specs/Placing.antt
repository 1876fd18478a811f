-- The rows that a start file makes.
use Rattle.std.specs.Prelude.{List, Option, Some, option_map}
use Rattle.std.specs.FinSet as set
use Rattle.mls_labels.specs.Scheme.{bounds_of}
use Rattle.mls_lines.specs.Names.{Names}
use Rattle.mls_tables.specs.Triples.{triple_cmp}
use Rattle.mls_start.specs.Rows.{Rows}
use Rattle.mls_start.specs.declared.object_row.ObjectRow.{ObjectRow}
use Rattle.mls_start_text.specs.Each.{having, each_of}
use Rattle.mls_start_text.specs.Labelling.{Labelled}
use Rattle.mls_start_text.specs.Placing.{Placed, placed_of}
use Rattle.mls_start_text.specs.Texts.{SaidFile}
use Rattle.mls_start_text.specs.declared.labels.LabelledChild.{LabelledChild}

-- An object below the root with its parent's number, where its parent's name is an object's. (own)
abbrev pub placed_child : LabelledChild → Option ObjectRow
placed_child c = having c.parent (λ parent. Some (record { parent = parent; labels = c.labels }))

-- The rows of a file of these names with its labels, the objects below the root with their parents' numbers, and what
-- else it says. (own)
abbrev pub rows_made : Names → Labelled → Placed → List ObjectRow → Rows
rows_made names labelled placed objects = record {
  security = bounds_of names.security;
  integrity = bounds_of names.integrity;
  profile = placed.profile;
  root = labelled.root;
  subjects = labelled.subjects;
  objects = objects;
  cells = set.from_list {R = triple_cmp} placed.cells;
  accesses = set.from_list {R = triple_cmp} placed.accesses;
}

-- The rows of a file of these names with its labels and triples, where each parent's name is known. (own)
abbrev pub rows_with : Names → Labelled → Placed → Option Rows
rows_with names labelled placed = option_map (rows_made names labelled placed) (each_of placed_child labelled.children)

-- The rows of a file of these names with its labels, where each name in it is known. (own)
abbrev pub rows_of : Names → SaidFile → Labelled → Option Rows
rows_of names file labelled = having (placed_of names file) (rows_with names labelled)
