use Rattle.std.proofs.Common.{ap, ◌∙◌}
use Rattle.mls_sessions.proofs.holding.count_with.Goals as goal

pub take_up-requires-clause-lies : goal.take_up-requires-clause-lies
take_up-requires-clause-lies c = (c.args.monitor, ap (λ z. z.1) c.fetch_add-before.ensures.2 ∙ ap (λ z. z.1) c.lay.ensures.lies)
