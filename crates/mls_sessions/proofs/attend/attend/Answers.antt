use Rattle.mls_sessions.proofs.Feeds.{serves_stopped}
use Rattle.mls_sessions.proofs.attend.attend.Goals as goal

pub returns-in-Err-clause-served : goal.returns-in-Err-clause-served
returns-in-Err-clause-served g c = serves_stopped _ _ _ _ _ _ _ _ _ _ _ c.loop-session.invariant.asking c.loop-session.invariant.number c.in-Err.ensures.broke
