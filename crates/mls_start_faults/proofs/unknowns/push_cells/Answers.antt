use Rattle.std.proofs.Common.{◌++◌, ◌∙◌, ap, arith, map}
use Rattle.mls_start_faults.proofs.Each.{one_more_seen}
use Rattle.mls_start_faults.specs.Unknowns.{cell_places}
use Rattle.mls_start_text.specs.Views.{cell_view}
use Rattle.mls_start_faults.specs.Places.{located_view}
use Rattle.mls_start_faults.proofs.unknowns.push_cells.Goals as goal

pub loop-n-preserved : goal.loop-n-preserved
loop-n-preserved c =
    one_more_seen cell_view (cell_places c.args.names.now.subjects c.args.names.now.objects c.args.list.now) 0 c.args.cells.now c.loop-n.n c.index-cells-n.result c.loop-n.n _ _ _ c.loop-n-test.true (omega arith) c.loop-n.invariant (c.in_ok-push_cell.ensures ∙ ap (λ x. map located_view c.loop-n.found.items ++ cell_places c.args.names.now.subjects c.args.names.now.objects c.args.list.now c.loop-n.n (cell_view x)) c.index-cells-n.is)
