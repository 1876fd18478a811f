use Rattle.std.proofs.Common.{length, sym, ap, subst, ◌∙◌, ◌+◌}
use Rattle.mls_futures.specs.Closure.{acts_in, IsGivable}
use Rattle.mls_futures.proofs.KnownAnswers.{length_pushed, givable_pushed}
use Rattle.mls_futures.proofs.table.givable.Goals as goal

pub is_givable-open-requires-clause-known : goal.is_givable-open-requires-clause-known
is_givable-open-requires-clause-known g c =
    subst (IsGivable c.args.state.now (acts_in c.args.actors.now)) (sym c.deref.ensures.value) c.loop-n.invariant.1

pub loop-n-preserved : goal.loop-n-preserved
loop-n-preserved g c = (
  ap length c.in_ok-push.ensures.items ∙ length_pushed c.loop-n.found.items c.is_givable-open.result ∙ ap (λ k. k + 1) c.loop-n.invariant.0,
  subst (IsGivable c.args.state.now (acts_in c.args.actors.now)) (sym c.in_ok-push.ensures.items)
      (givable_pushed c.args.state.now (acts_in c.args.actors.now) c.loop-n.found.items c.is_givable-open.result c.loop-n.n c.loop-n.invariant.0 c.loop-n.invariant.1
      c.is_givable-open.ensures),
)
