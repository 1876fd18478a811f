use Rattle.mls_sessions.proofs.Handing.{next_is}
use Rattle.mls_sessions.proofs.answering.answer.Goals as goal

pub publish-monitor-requires-clause-entry : goal.publish-monitor-requires-clause-entry
publish-monitor-requires-clause-entry c = next_is c.args.gate.now.key c.args.monitor _ _ _ _ _ c.requires.session.0 c.requires.session.1 c.in-Ok.ensures.ok

pub publish-monitor-requires-clause-holds : goal.publish-monitor-requires-clause-holds
publish-monitor-requires-clause-holds c = c.requires.session.0.0
