use Rattle.mls_grid.proofs.Rows.{rows_more}
use Rattle.mls_grid.proofs.cells.cells_of.Goals as goal

pub loop-o-preserved : goal.loop-o-preserved
loop-o-preserved c = record {
  places = rows_more c.args.objects.now c.args.subjects.now c.loop-o.o-index c.o-item.result c.loop-o.cells.items c.push_row.new.cells.items
      c.loop-o-test.true c.o-item.is c.in_ok-push_row.ensures.places c.loop-o.invariant.places;
  each = c.in_ok-push_row.ensures.each;
}
