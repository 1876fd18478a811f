use Rattle.std.proofs.Common.{◌↔◌, IsTrue, sym, subst, ◌∙◌}
use Rattle.mls_futures.specs.Closure.{acts_in, CouldGet, CouldGive}
use Rattle.mls_could.proofs.Tested.{gives_right}
use Rattle.mls_could.proofs.outset.Outset.could.Goals as goal

pub could_get_where-requires-clause-gives : goal.could_get_where-requires-clause-gives
could_get_where-requires-clause-gives c =
    let right = gives_right c.args.state.now c.args.self.now c.agrees.ensures.tree c.requires.outset c.args.o (sym c.is_active.ensures ∙ c.if-not-is_active.false) in
    subst (λ xs. IsTrue c.could_give.result ↔ CouldGive c.args.state.now (acts_in xs) c.args.o) (sym c.deref.ensures.value)
    (λ is. right.0 (sym c.could_give.ensures ∙ is), λ gives. c.could_give.ensures ∙ right.1 gives)

pub returns : goal.returns
returns c =
    subst (λ xs. IsTrue c.could_get_where.result ↔ CouldGet c.args.state.now (acts_in xs) c.args.s c.args.o c.args.x) c.deref.ensures.value c.could_get_where.ensures
