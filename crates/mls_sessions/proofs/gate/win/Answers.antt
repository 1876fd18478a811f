use Rattle.std.proofs.Common.{rules, ◌∷◌, Some, sym, ap, ◌∙◌}
use Rattle.atomic_table.specs.Table.{rest}
use Rattle.mls_sessions.specs.Rule.{present}
use Rattle.mls_sessions.proofs.StepsKeep.{wins_at}
use Rattle.mls_sessions.proofs.gate.win.Goals as goal

pub compare_exchange-found-requires : goal.compare_exchange-found-requires
compare_exchange-found-requires c = (search rules, search rules, wins_at _ _ _ _ _ c.requires.session c.requires.held)

pub exchange-requires : goal.exchange-requires
exchange-requires c = let took = (c.compare_exchange-found.ensures.2 _ _ (ap (λ m. m.0) c.requires.session)).0 c.if-found-ne-FREE.false in let is = ap (λ m. m.1) took.1 in
    let m = present c.args.gate.now.key took.0 in (search rules, (Some m, is ∙ (λ k. (0, Some m) ∷ sym (ap rest is) k)))
