use Rattle.std.proofs.Common.{◌≡◌, All, take}
use Rattle.mls_could.specs.Outsets.{acts_of}
use Rattle.mls_grid.specs.Grids.{IsCell, places_of, rows_of}
use Rattle.mls_grid.proofs.cells.cells_of.Given as goal

-- the cells of the objects so far are there
abbrev pub invariant-loop-o : goal.invariant-loop-o
invariant-loop-o l = record {
  places : places_of l.cells.items ≡ rows_of (take l.o-index l.objects) l.subjects;
  each : All (IsCell l.state (acts_of l.outset)) l.cells.items;
}
