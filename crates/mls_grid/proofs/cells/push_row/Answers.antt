use Rattle.std.proofs.Common.{All, sym, subst}
use Rattle.std.proofs.lemmas.List.Elements.{All-push}
use Rattle.mls_could.specs.Outsets.{acts_of}
use Rattle.mls_grid.specs.Grids.{IsCell}
use Rattle.mls_grid.proofs.Rows.{cell_more}
use Rattle.mls_grid.proofs.cells.push_row.Goals as goal

pub loop-s-preserved : goal.loop-s-preserved
loop-s-preserved c = record {
  places = cell_more c.args.subjects.now c.loop-s.s-index c.s-item.result c.args.o c.args.cells.now.items c.loop-s.cells.items c.push.new.self.items c.cell_of-cell.result
      c.loop-s-test.true c.s-item.is c.in_ok-push.ensures.items c.cell_of-cell.ensures.place c.loop-s.invariant.places;
  each = subst (All (IsCell c.args.state.now (acts_of c.args.outset.now))) (sym c.in_ok-push.ensures.items)
      (All-push (IsCell c.args.state.now (acts_of c.args.outset.now)) c.loop-s.cells.items c.cell_of-cell.result c.loop-s.invariant.each c.cell_of-cell.ensures.so);
}
