use Rattle.mls_c.proofs.SessionHandles.{closed_more, not_closed}
use Rattle.mls_c.proofs.session_handles.are_closed.Goals as goal

pub loop-n-preserved : goal.loop-n-preserved
loop-n-preserved c = closed_more c.args.sessions.now c.loop-n.n c.index-sessions-n.result c.loop-n-test.true c.index-sessions-n.is c.if-session-ne0.false c.loop-n.invariant

pub returns-then-session-ne0 : goal.returns-then-session-ne0
returns-then-session-ne0 c = not_closed c.args.sessions.now c.loop-n.n c.index-sessions-n.result c.loop-n-test.true c.index-sessions-n.is c.if-session-ne0.true c.loop-n.invariant
