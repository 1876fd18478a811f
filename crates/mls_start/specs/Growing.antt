-- States with objects and triples more.
use Rattle.std.specs.Prelude.{◌+◌, List, [], ◌∷◌}
use Rattle.std.specs.FinMap as map
use Rattle.mls_tables.specs.Triples.{Triple}
use Rattle.mls_state.specs.First.{with_triples}
use Rattle.mls_state.specs.State.{State}
use Rattle.mls_start.specs.declared.object_row.ObjectRow.{ObjectRow}

-- A state with one object more, which has the next number. (own)
abbrev pub with_row : State → ObjectRow → State
with_row v o = record v {
  object_label = map.insert v.object_label v.next o.labels.security;
  object_integrity = map.insert v.object_integrity v.next o.labels.integrity;
  parent = map.insert v.parent v.next o.parent;
  next = v.next + 1;
}

-- A state with some objects more, one after the other. (own)
abbrev pub with_rows : State → List ObjectRow → State
with_rows v [] = v
with_rows v (o ∷ objects) = with_rows (with_row v o) objects

-- A state with some cells and some accesses more. (own)
abbrev pub with_cells_and_accesses : State → List Triple → List Triple → State
with_cells_and_accesses v cells accesses = record v {
  matrix = with_triples v.matrix cells;
  accesses = with_triples v.accesses accesses;
}
