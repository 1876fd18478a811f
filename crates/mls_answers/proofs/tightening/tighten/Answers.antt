use Rattle.mls_answers.proofs.Tight.{tight_more, tight_none}
use Rattle.mls_answers.proofs.tightening.tighten.Goals as goal

pub loop-usage-init : goal.loop-usage-init
loop-usage-init c = tight_none c.args.state.now c.args.unused.now

pub loop-usage-preserved : goal.loop-usage-preserved
loop-usage-preserved c =
    tight_more c.args.state.now c.args.unused.now c.loop-usage.usage-index c.usage-item.result c.loop-usage.state c.leave_out.new.state
    c.loop-usage-test.true c.usage-item.is c.loop-usage.invariant c.leave_out.ensures.rest c.leave_out.ensures.cells
