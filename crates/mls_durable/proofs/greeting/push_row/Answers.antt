use Rattle.mls_durable.proofs.Greetings.{begins, grows, row_none, row_more}
use Rattle.mls_durable.proofs.greeting.push_row.Goals as goal

pub loop-o-init : goal.loop-o-init
loop-o-init c = begins _ _ (row_none _ _ _)

pub loop-o-preserved : goal.loop-o-preserved
loop-o-preserved c = grows _ _ _ _ _ _ c.loop-o.invariant c.in_ok-push_cell.ensures (row_more _ _ _ _)
