use Rattle.mls_c.proofs.SessionHandles.{open_more, not_open}
use Rattle.mls_c.proofs.session_handles.are_open.Goals as goal

pub loop-n-preserved : goal.loop-n-preserved
loop-n-preserved c = open_more c.args.sessions.now c.loop-n.n c.index-sessions-n.result c.loop-n-test.true c.index-sessions-n.is c.if-session-eq0.false c.loop-n.invariant

pub returns-then-session-eq0 : goal.returns-then-session-eq0
returns-then-session-eq0 c = not_open c.args.sessions.now c.loop-n.n c.index-sessions-n.result c.loop-n-test.true c.index-sessions-n.is c.if-session-eq0.true c.loop-n.invariant
