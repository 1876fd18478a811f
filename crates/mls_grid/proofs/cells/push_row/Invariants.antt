use Rattle.std.proofs.Common.{◌≡◌, ◌++◌, All, take}
use Rattle.mls_could.specs.Outsets.{acts_of}
use Rattle.mls_grid.specs.Grids.{IsCell, places_of, row_of}
use Rattle.mls_grid.proofs.cells.push_row.Given as goal

-- the cells of the subjects so far are added
abbrev pub invariant-loop-s : goal.invariant-loop-s
invariant-loop-s l = record {
  places : places_of l.cells.items ≡ places_of l.fn.cells.items ++ row_of (take l.s-index l.subjects) l.o;
  each : All (IsCell l.state (acts_of l.outset)) l.cells.items;
}
