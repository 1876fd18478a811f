use Rattle.std.proofs.Common.{◌≡◌, map, take}
use Rattle.mls_start_text.specs.Views.{text_view, cell_view}
use Rattle.mls_start_faults.specs.Permissions.{by_each, mode_looked}
use Rattle.mls_start_faults.specs.Places.{located_view}
use Rattle.mls_start_faults.proofs.permissions.look_at_cell.Given as goal

-- the first modes were looked at
abbrev pub invariant-loop-k : goal.invariant-loop-k
invariant-loop-k l =
    (map located_view l.found.items, l.seen)
    ≡ by_each (mode_looked l.row (cell_view l.cell)) 0 (map text_view (take l.k l.cell.modes.now)) (map located_view l.fn.found.items, l.fn.seen)
