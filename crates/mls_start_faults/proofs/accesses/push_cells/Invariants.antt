use Rattle.std.proofs.Common.{◌≡◌, ◌++◌, map, take}
use Rattle.mls_start_faults.specs.Accesses.{cell_accesses}
use Rattle.mls_start_faults.specs.Each.{at_each}
use Rattle.mls_start_text.specs.Views.{cell_view}
use Rattle.mls_start_faults.specs.Places.{located_view}
use Rattle.mls_start_faults.proofs.accesses.push_cells.Given as goal

-- the lines of what was looked at are written
abbrev pub invariant-loop-row : goal.invariant-loop-row
invariant-loop-row l =
    map located_view l.found.items ≡ map located_view l.fn.found.items ++ at_each (cell_accesses l.names l.state) 0 (map cell_view (take l.row l.cells))
