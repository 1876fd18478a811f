use Rattle.std.proofs.Common.{rules, ap}
use Rattle.mls_sessions.proofs.CellsKeep.{homes_at}
use Rattle.mls_sessions.proofs.homing.bring_home.Goals as goal

pub put_home-requires-clause-rule : goal.put_home-requires-clause-rule
put_home-requires-clause-rule c = let leads = c.requires.leads in λ legal. homes_at c.args.gate.now.key _ _ _ _ (ap (λ m. m.0) leads.0) _ legal leads.1 leads.2.grown leads.2.mine leads.3.words leads.3.count

pub put_home-requires-clause-office : goal.put_home-requires-clause-office
put_home-requires-clause-office c = (search rules, search rules, ap (λ m. m.1) c.requires.leads.0)
