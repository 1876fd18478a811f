use Rattle.std.proofs.Common.{◌++◌, ◌∙◌, ap, arith, map}
use Rattle.mls_start_faults.proofs.Each.{one_more_seen}
use Rattle.mls_start_faults.specs.Accesses.{cell_accesses}
use Rattle.mls_start_text.specs.Views.{cell_view}
use Rattle.mls_start_faults.specs.Places.{located_view}
use Rattle.mls_start_faults.proofs.accesses.push_cells.Goals as goal

pub loop-row-preserved : goal.loop-row-preserved
loop-row-preserved c =
    one_more_seen cell_view (cell_accesses c.args.names.now c.args.state.now) 0 c.args.cells.now c.loop-row.row c.index-cells-row.result c.loop-row.row _ _ _ c.loop-row-test.true (omega arith) c.loop-row.invariant (c.in_ok-push_cell.ensures ∙ ap (λ x. map located_view c.loop-row.found.items ++ cell_accesses c.args.names.now c.args.state.now c.loop-row.row (cell_view x)) c.index-cells-row.is)
