use Rattle.std.proofs.Common.{ap}
use Rattle.mls_sessions.proofs.StepsKeep.{stays_at}
use Rattle.mls_sessions.proofs.homing.keep_home.Goals as goal

pub put_home-requires-clause-rule : goal.put_home-requires-clause-rule
put_home-requires-clause-rule c = let held = c.requires.holds in λ legal. stays_at c.args.gate.now.key _ _ _ (ap (λ m. m.0) held.0) _ held.1
