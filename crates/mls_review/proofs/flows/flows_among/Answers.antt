use Rattle.mls_review.specs.Flows.{flows_of}
use Rattle.mls_review.proofs.Pairs.{gathered_more}
use Rattle.mls_review.proofs.flows.flows_among.Goals as goal

pub loop-s-preserved : goal.loop-s-preserved
loop-s-preserved g c =
    gathered_more (flows_of c.args.state.now) c.args.subjects.now c.loop-s.s-index c.s-item.result c.loop-s.found.items c.push_flow.new.found.items
    c.loop-s-test.true c.s-item.is c.loop-s.invariant c.in_ok-push_flow.ensures
