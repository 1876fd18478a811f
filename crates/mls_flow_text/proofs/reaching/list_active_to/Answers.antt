use Rattle.std.proofs.Common.{sym, subst, ◌∙◌}
use Rattle.std.specs.Prelude.{option_map}
use Rattle.mls_futures.specs.Closure.{acts_in}
use Rattle.mls_flows.specs.declared.place.Place.TheVariants.{Object}
use Rattle.mls_paths.specs.Found.{IsFlow}
use Rattle.mls_paths.specs.Hands.{IsHand, has_room}
use Rattle.mls_flow_text.specs.Flows.{DoesWay}
use Rattle.mls_flow_text.proofs.Flows.{rows_active_to, shortest_found}
use Rattle.mls_flow_text.proofs.reaching.list_active_to.Goals as goal

pub script_on-script-requires-clause-shortest : goal.script_on-script-requires-clause-shortest
script_on-script-requires-clause-shortest c =
    let v = c.args.state.now in
    let acts = acts_in c.args.actors.now in
    shortest_found v acts c.args.from c.args.to c.deref.result.now (λ hops. hops.items) c.in_ok-way.way
    (subst (IsFlow (IsHand v acts (has_room v)) (Object c.args.from)) (sym c.deref.ensures.value) c.in_ok-found.ensures.ways) c.in_ok-way.ensures.some

pub returns : goal.returns
returns c =
    let v = c.args.state.now in
    let acts = acts_in c.args.actors.now in
    let way = option_map (λ hops. hops.items) c.in_ok-way.way in
    rows_active_to c.args.names.now c.args.form v acts c.args.from c.args.to c.deref.result.now (λ hops. hops.items) c.in_ok-way.way c.deref-2.result.now c.deref-3.result.now
    c.in_ok-output.field-0 c.in_ok-output-2.field-0 c.in_ok-output-3.field-0 c.into_bytes.result.items c.is_some-is_positive.result
    (subst (IsFlow (IsHand v acts (has_room v)) (Object c.args.from)) (sym c.deref.ensures.value) c.in_ok-found.ensures.ways) c.in_ok-way.ensures.none
    c.in_ok-way.ensures.some
    (subst (λ xs. DoesWay v acts c.args.from c.args.to way xs c.deref-3.result.now) (sym c.deref-2.ensures.value)
    (subst (λ xs. DoesWay v acts c.args.from c.args.to way c.in_ok-releases.field-0.releases.items xs)
    (sym c.deref-3.ensures.value) c.in_ok-releases.ensures))
    c.in_ok-output.ensures.form c.in_ok-output.ensures.bytes c.in_ok-output-2.ensures.form c.in_ok-output-2.ensures.bytes c.in_ok-output-3.ensures.form
    c.in_ok-output-3.ensures.bytes (c.into_bytes.ensures ∙ c.in_ok-output-4.ensures) c.is_some-is_positive.ensures
