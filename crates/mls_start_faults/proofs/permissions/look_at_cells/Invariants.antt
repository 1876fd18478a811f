use Rattle.std.proofs.Common.{◌≡◌, map, take}
use Rattle.mls_start_text.specs.Views.{cell_view}
use Rattle.mls_start_faults.specs.Permissions.{by_each, cell_looked}
use Rattle.mls_start_faults.specs.Places.{located_view}
use Rattle.mls_start_faults.proofs.permissions.look_at_cells.Given as goal

-- the first cells were looked at
abbrev pub invariant-loop-row : goal.invariant-loop-row
invariant-loop-row l =
    (map located_view l.found.items, l.seen)
    ≡ by_each cell_looked 0 (map cell_view (take l.row l.cells)) (map located_view l.fn.found.items, l.fn.seen)
