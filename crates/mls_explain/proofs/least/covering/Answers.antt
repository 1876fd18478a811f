use Rattle.mls_explain.proofs.Covering.{Joined, joined_none, joined_more, joined_all}
use Rattle.mls_explain.proofs.least.covering.Goals as goal

pub loop-o-init : goal.loop-o-init
loop-o-init g c = joined_none c.args.state.now c.args.s c.args.from c.objects_of-o-items.result.now

pub loop-o-preserved : goal.loop-o-preserved
loop-o-preserved g c =
    joined_more c.args.state.now c.args.s c.args.from c.objects_of-o-items.result.now c.loop-o.o-index c.o-item.result c.loop-o.level c.covering_object-level.result
    c.loop-o-test.true c.o-item.is c.loop-o.invariant c.covering_object-level.ensures.least c.covering_object-level.ensures.above c.covering_object-level.ensures.covers

pub returns-clause-least : goal.returns-clause-least
returns-clause-least g c = c.loop-o.invariant.least

pub returns-clause-from : goal.returns-clause-from
returns-clause-from g c = c.loop-o.invariant.from_below

pub returns-clause-covers : goal.returns-clause-covers
returns-clause-covers g c =
    joined_all c.args.state.now c.args.s c.args.from c.objects_of-o-items.result.now c.loop-o.level c.objects_of-o-items.ensures.each c.loop-o.o-index c.loop-o-test.false c.loop-o.invariant
