use Rattle.std.proofs.Common.{sym, subst}
use Rattle.mls_futures.specs.Closure.{acts_in, IsGivable}
use Rattle.mls_flows.specs.declared.place.Place.TheVariants.{Object}
use Rattle.mls_paths.specs.Hands.{has_room}
use Rattle.mls_paths.proofs.Exact.{told_reach}
use Rattle.mls_paths.proofs.flowing.flows.Goals as goal

pub returns-clause-reach : goal.returns-clause-reach
returns-clause-reach c =
    told_reach c.args.state.now (acts_in c.args.actors.now) (has_room c.args.state.now) (Object c.args.from) c.flows_by-found.result (λ x. x.items) c.flows_by-found.ensures

pub flows_by-found-requires-clause-gives : goal.flows_by-found-requires-clause-gives
flows_by-found-requires-clause-gives c = subst (IsGivable c.args.state.now (acts_in c.args.actors.now)) (sym c.deref.ensures.value) c.in_ok-gives.ensures.each
