use Rattle.std.proofs.Common.{sym}
use Rattle.mls_tables.proofs.Laws.{column_fails, column_all}
use Rattle.mls_rules.proofs.LevelTests.{none_of_object}
use Rattle.mls_rules.proofs.levels.object_meets.Goals as goal

pub returns-then-not-is_active : goal.returns-then-not-is_active
returns-then-not-is_active g c = sym (none_of_object c.args.state.now c.args.o (g.D.LevelDemand.asked c.args.demand c.args.state.now) c.agrees.ensures.tree.accesses_known (sym c.if-not-is_active.ensures))

pub returns-then-not-cell_meets : goal.returns-then-not-cell_meets
returns-then-not-cell_meets g c =
    column_fails c.args.state.now.accesses c.args.o c.subjects_of-s-items.result.now (g.D.LevelDemand.asked c.args.demand c.args.state.now) c.subjects_of-s-items.ensures.each c.loop-s.s-index c.s-item.result c.loop-s-test.true c.s-item.is (sym c.if-not-cell_meets.ensures)

pub returns : goal.returns
returns g c = column_all c.args.state.now.accesses c.args.o c.subjects_of-s-items.result.now (g.D.LevelDemand.asked c.args.demand c.args.state.now) c.subjects_of-s-items.ensures.each c.loop-s.s-index c.loop-s-test.false c.loop-s.invariant
