use Rattle.mls_durable.proofs.Greetings.{begins, grows, accesses_none, accesses_more}
use Rattle.mls_durable.proofs.greeting.push_accesses.Goals as goal

pub loop-s-init : goal.loop-s-init
loop-s-init c = begins _ _ (accesses_none _ _)

pub loop-s-preserved : goal.loop-s-preserved
loop-s-preserved c = grows _ _ _ _ _ _ c.loop-s.invariant c.in_ok-push_row.ensures (accesses_more _ _ _)
