use Rattle.std.proofs.Common.{sym}
use Rattle.mls_tables.proofs.Laws.{row_fails, row_all}
use Rattle.mls_rules.proofs.LevelTests.{none_of_subject}
use Rattle.mls_rules.proofs.levels.subject_meets.Goals as goal

pub returns-then-not-is_subject : goal.returns-then-not-is_subject
returns-then-not-is_subject g c = sym (none_of_subject c.args.state.now c.args.s (g.D.LevelDemand.asked c.args.demand c.args.state.now) c.agrees.ensures.tree.accesses_known (sym c.if-not-is_subject.ensures))

pub returns-then-not-cell_meets : goal.returns-then-not-cell_meets
returns-then-not-cell_meets g c =
    row_fails c.args.state.now.accesses c.args.s c.objects_of-o-items.result.now (g.D.LevelDemand.asked c.args.demand c.args.state.now) c.objects_of-o-items.ensures.each c.loop-o.o-index c.o-item.result c.loop-o-test.true c.o-item.is (sym c.if-not-cell_meets.ensures)

pub returns : goal.returns
returns g c = row_all c.args.state.now.accesses c.args.s c.objects_of-o-items.result.now (g.D.LevelDemand.asked c.args.demand c.args.state.now) c.objects_of-o-items.ensures.each c.loop-o.o-index c.loop-o-test.false c.loop-o.invariant
