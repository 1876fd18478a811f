use Rattle.std.proofs.Common.{ap, map, ◌∙◌}
use Rattle.mls_start_text.specs.Views.{cell_view}
use Rattle.mls_start_faults.proofs.Looked.{one_more_step}
use Rattle.mls_start_faults.specs.Permissions.{cell_looked}
use Rattle.mls_start_faults.specs.Places.{located_view}
use Rattle.mls_start_faults.proofs.permissions.look_at_cells.Goals as goal

pub loop-row-preserved : goal.loop-row-preserved
loop-row-preserved c =
    one_more_step cell_view cell_looked c.args.cells.now c.loop-row.row c.index-cells-row.result _ _ _ c.loop-row-test.true c.loop-row.invariant
    (c.in_ok-look_at_cell.ensures
    ∙ ap (λ x. cell_looked c.loop-row.row (cell_view x) (map located_view c.loop-row.found.items, c.loop-row.seen)) c.index-cells-row.is)
