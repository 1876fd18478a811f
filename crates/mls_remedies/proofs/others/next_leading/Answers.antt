use Rattle.mls_remedies.proofs.Granting.{get_more}
use Rattle.mls_remedies.proofs.others.next_leading.Goals as goal

pub loop-n-preserved : goal.loop-n-preserved
loop-n-preserved c =
    get_more c.args.state.now c.args.action.now c.args.p c.loop-n.n c.new-s.result c.in_ok-first.field-0 c.new-s.ensures c.in_ok-first.ensures c.in-None.is
    c.loop-n.invariant
