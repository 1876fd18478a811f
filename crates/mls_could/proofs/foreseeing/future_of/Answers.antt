use Rattle.std.proofs.Common.{◌≡◌, true, sym, ◌∙◌}
use Rattle.mls_futures.specs.Closure.{acts_in, CouldGet}
use Rattle.mls_could.proofs.Pairs.{never}
use Rattle.mls_could.proofs.foreseeing.future_of.Goals as goal

pub returns-then-could_get_where : goal.returns-then-could_get_where
returns-then-could_get_where c = (
  sym c.has_access.ensures ∙ c.if-has_access.false,
  λ within. (c.what_the_closure_has_comes_about.ensures c.args.state.now (acts_in c.args.actors.now) c.args.s c.args.o c.args.x c.requires.secure c.agrees.ensures.whole within).0
      (c.could_get_where.ensures.0 c.if-could_get_where.true),
)

pub returns-else-could_get_where : goal.returns-else-could_get_where
returns-else-could_get_where c = (
  sym c.has_access.ensures ∙ c.if-has_access.false,
  never c.args.state.now (acts_in c.args.actors.now) c.args.s c.args.o c.args.x
      (c.no_future_has_what_the_closure_has_not.ensures.released c.args.state.now (acts_in c.args.actors.now) c.args.s c.args.o c.args.x c.requires.secure)
      (λ entries. c.no_future_has_what_the_closure_has_not.ensures.held c.args.state.now entries (acts_in c.args.actors.now) c.args.s c.args.o c.args.x c.requires.secure)
      no,
) where
  no : CouldGet c.args.state.now (acts_in c.args.actors.now) c.args.s c.args.o c.args.x → ⊥
  no could = let is : c.could_get_where.result ≡ true = c.could_get_where.ensures.1 could in let is_not = c.if-could_get_where.false in cc
