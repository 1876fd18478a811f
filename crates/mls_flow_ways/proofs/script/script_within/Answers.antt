use Rattle.std.proofs.Common.{sym, subst}
use Rattle.mls_state.specs.Properties.{IsSecure}
use Rattle.mls_futures.specs.Closure.{acts_in}
use Rattle.mls_paths.specs.Hands.{IsHand, has_room}
use Rattle.mls_paths.specs.Ways.{LeadsOn}
use Rattle.mls_ways.proofs.Laws.{released_secure}
use Rattle.mls_flows.specs.declared.place.Place.TheVariants.{Object}
use Rattle.mls_flow_ways.proofs.Freed.{freed_grown, freed_next, carries_from}
use Rattle.mls_flow_ways.proofs.Growing.{leads_grown}
use Rattle.mls_flow_ways.proofs.Once.{shortest_once}
use Rattle.mls_flow_ways.proofs.script.script_within.Goals as goal

pub pass_on-done-requires-clause-secure : goal.pass_on-done-requires-clause-secure
pass_on-done-requires-clause-secure c =
    released_secure c.in_ok-freed.freed c.release_all.new.state c.new-releases.result.items c.release_all.new.script.items c.in_ok-release_all.ensures.releases
    (subst IsSecure (sym c.in_ok-freed.ensures) c.requires.secure)

pub pass_on-done-requires-clause-leads : goal.pass_on-done-requires-clause-leads
pass_on-done-requires-clause-leads c =
    let acts = acts_in c.args.actors.now in
    let v = c.in_ok-freed.freed in
    leads_grown acts v c.release_all.new.state
    (freed_grown acts v c.release_all.new.state c.new-releases.result.items c.release_all.new.script.items c.in_ok-release_all.ensures.releases)
    (freed_next v c.release_all.new.state c.new-releases.result.items c.release_all.new.script.items c.in_ok-release_all.ensures.releases)
    (Object c.args.from) c.args.to c.args.hops.now
    (subst (λ z. LeadsOn (IsHand z acts (has_room z)) (Object c.args.from) c.args.hops.now c.args.to) (sym c.in_ok-freed.ensures) c.requires.shortest.leads)

pub pass_on-done-requires-clause-once : goal.pass_on-done-requires-clause-once
pass_on-done-requires-clause-once c =
    shortest_once c.args.state.now (acts_in c.args.actors.now) (has_room c.args.state.now) (Object c.args.from) c.args.to c.args.hops.now c.requires.shortest

pub returns-in-Ok : goal.returns-in-Ok
returns-in-Ok c =
    carries_from c.args.state.now c.in_ok-freed.freed c.release_all.new.state c.pass_on-done.new.state (acts_in c.args.actors.now) (Object c.args.from) c.args.to
    c.new-releases.result.items c.release_all.new.script.items c.new-requests.result.items c.pass_on-done.new.script.items c.in_ok-freed.ensures c.new-releases.ensures.items
    c.in_ok-release_all.ensures.releases c.in_ok-release_all.ensures.nothing c.new-requests.ensures.items c.in-Ok.ensures
