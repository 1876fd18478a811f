use Rattle.std.proofs.Common.{◌≡◌, true, false, ◌⊎◌, inl, inr, sym, ◌∙◌}
use Rattle.std.specs.FinSet as set
use Rattle.mls_futures.specs.Closure.{acts_in, permitted, CouldGive}
use Rattle.mls_futures.proofs.Walking.{got_qualifies, got_how, got_given}
use Rattle.mls_futures.proofs.closure.could_get_where.Goals as goal

pub returns-then-discretionary_holds : goal.returns-then-discretionary_holds
returns-then-discretionary_holds g c =
    (λ is. permitted (sym c.discretionary_holds.ensures ∙ is) (c.qualifies.ensures.0 c.if-qualifies.true), λ could. c.if-discretionary_holds.true)

pub returns-else-discretionary_holds : goal.returns-else-discretionary_holds
returns-else-discretionary_holds g c = (
  λ is. got_given c.args.state.now (acts_in c.args.actors.now) c.args.s c.args.o c.args.x (c.requires.gives.0 is) (c.qualifies.ensures.0 c.if-qualifies.true),
  λ could. from (got_how c.args.state.now (acts_in c.args.actors.now) c.args.s c.args.o c.args.x could),
) where
  from : (set.contains c.args.state.now.matrix (c.args.s, c.args.o, c.args.x) ≡ true) ⊎ CouldGive c.args.state.now (acts_in c.args.actors.now) c.args.o
      → c.args.gives ≡ true
  from (inl has) = let no : false ≡ true = sym c.if-discretionary_holds.false ∙ c.discretionary_holds.ensures ∙ has in cc
  from (inr gives) = c.requires.gives.1 gives

pub returns-else-qualifies : goal.returns-else-qualifies
returns-else-qualifies g c = (
  λ is. let no : true ≡ false = sym is ∙ c.if-qualifies.false in cc,
  λ could. c.qualifies.ensures.1 (got_qualifies c.args.state.now (acts_in c.args.actors.now) c.args.s c.args.o c.args.x could),
)
