use Rattle.std.proofs.Common.{◌↔◌, IsTrue, subst}
use Rattle.mls_futures.specs.Closure.{acts_in, HasTrusted, IsGivable}
use Rattle.mls_could.proofs.outset.outset_of.Goals as goal

pub returns-in-Ok-clause-right : goal.returns-in-Ok-clause-right
returns-in-Ok-clause-right c = record {
  trusted = subst (λ xs. IsTrue c.has_trusted-trusted.result ↔ HasTrusted c.args.state.now (acts_in xs)) c.deref.ensures.value c.has_trusted-trusted.ensures;
  many = c.in-Ok.ensures.all;
  gives = subst (λ xs. IsGivable c.args.state.now (acts_in xs) c.in-Ok.gives.items) c.deref-2.ensures.value c.in-Ok.ensures.each;
}
