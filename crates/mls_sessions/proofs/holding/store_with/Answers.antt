use Rattle.std.proofs.Common.{ap, ◌∙◌}
use Rattle.mls_sessions.proofs.holding.store_with.Goals as goal

pub take_up-requires-clause-lies : goal.take_up-requires-clause-lies
take_up-requires-clause-lies c = (c.args.monitor, ap (λ z. z.1) c.store.ensures.2 ∙ ap (λ z. z.1) c.lay.ensures.lies)
