use Rattle.std.proofs.Common.{rules, ap}
use Rattle.mls_sessions.proofs.StepsKeep.{fills_at, settles_at}
use Rattle.mls_sessions.proofs.opening.settle.Goals as goal

pub compare_exchange-found-requires : goal.compare_exchange-found-requires
compare_exchange-found-requires c = (search rules, search rules, fills_at _ _ _ _ c.requires.first.0)

pub put_home-may_sleep-requires-clause-rule : goal.put_home-may_sleep-requires-clause-rule
put_home-may_sleep-requires-clause-rule c = let did = c.compare_exchange-found.ensures.2 _ (ap (λ m. m.0) c.requires.first.0) in λ legal. settles_at _ _ _ _ _ c.requires.first.1 legal (ap (λ m. m.0) did)
