use Rattle.std.proofs.Common.{sym, ◌∙◌}
use Rattle.mls_paths.proofs.Hands.{gives_right}
use Rattle.mls_paths.proofs.ground.could.Goals as goal

pub could_get_where-requires-clause-gives : goal.could_get_where-requires-clause-gives
could_get_where-requires-clause-gives c =
    let right = gives_right c.args.state.now c.args.ground c.agrees.ensures.tree c.requires c.args.o (sym c.is_active.ensures ∙ c.if-not-is_active.false) in
    (λ is. right.0 (sym c.is_givable-gives.ensures ∙ is), λ gives. c.is_givable-gives.ensures ∙ right.1 gives)
