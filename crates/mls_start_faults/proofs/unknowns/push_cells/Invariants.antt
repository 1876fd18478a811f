use Rattle.std.proofs.Common.{◌≡◌, ◌++◌, map, take}
use Rattle.mls_start_faults.specs.Each.{at_each}
use Rattle.mls_start_faults.specs.Unknowns.{cell_places}
use Rattle.mls_start_text.specs.Views.{cell_view}
use Rattle.mls_start_faults.specs.Places.{located_view}
use Rattle.mls_start_faults.proofs.unknowns.push_cells.Given as goal

-- the lines of what was looked at are written
abbrev pub invariant-loop-n : goal.invariant-loop-n
invariant-loop-n l =
    map located_view l.found.items ≡ map located_view l.fn.found.items ++ at_each (cell_places l.names.subjects l.names.objects l.list) 0 (map cell_view (take l.n l.cells))
