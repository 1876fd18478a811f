use Rattle.std.proofs.Common.{rules, ◌∷◌, Some, sym, ap, ◌∙◌}
use Rattle.atomic_table.specs.Table.{rest}
use Rattle.mls_sessions.proofs.holding.take_up.Goals as goal

pub exchange-requires : goal.exchange-requires
exchange-requires c = let lies = c.requires.lies in (search rules, (Some lies.0, lies.1 ∙ (λ k. (0, Some lies.0) ∷ sym (ap rest lies.1) k)))
