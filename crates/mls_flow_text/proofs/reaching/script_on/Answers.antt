use Rattle.std.proofs.Common.{sym, subst}
use Rattle.std.specs.Prelude.{IfSome}
use Rattle.mls_futures.specs.Closure.{acts_in}
use Rattle.mls_flows.specs.declared.place.Place.TheVariants.{Object}
use Rattle.mls_paths.specs.Hands.{IsHand, has_room}
use Rattle.mls_paths.specs.Ways.{IsShortest}
use Rattle.mls_flow_text.proofs.reaching.script_on.Goals as goal

pub flow_script_of-requires-clause-shortest : goal.flow_script_of-requires-clause-shortest
flow_script_of-requires-clause-shortest c =
    let v = c.args.state.now in
    let acts = acts_in c.args.actors.now in
    subst (λ xs. IsShortest (IsHand v acts (has_room v)) (Object c.args.from) xs c.args.to) (sym c.deref.ensures.value)
    (subst (λ way. IfSome way (λ hops. IsShortest (IsHand v acts (has_room v)) (Object c.args.from) hops.items c.args.to)) c.in-Some.is c.requires.shortest)
