use Rattle.std.proofs.Common.{◌≡◌, true, sym, subst}
use Rattle.mls_tables.specs.declared.limits.TheConstants.{MAX_OBJECTS}
use Rattle.mls_tree.specs.Tree.{reaches_within}
use Rattle.mls_state.specs.State.{State}
use Rattle.mls_futures.specs.Closure.{acts_in}
use Rattle.mls_futures.specs.Futures.{HasLabelsWithin, HoldsNothing}
use Rattle.mls_ways.proofs.Leading.{leads_from}
use Rattle.mls_ways.proofs.Making.{near_all}
use Rattle.mls_ways.proofs.script.requests_of.Goals as goal

pub bring-done-requires-clause-within : goal.bring-done-requires-clause-within
bring-done-requires-clause-within c = subst HasLabelsWithin (sym c.in_ok-state.ensures) c.requires.within

pub bring-done-requires-clause-nothing : goal.bring-done-requires-clause-nothing
bring-done-requires-clause-nothing c = subst HoldsNothing (sym c.in_ok-state.ensures) c.requires.nothing

pub bring-done-requires-clause-near : goal.bring-done-requires-clause-near
bring-done-requires-clause-near c =
    subst (λ (z : State). reaches_within z.parent MAX_OBJECTS c.args.access.1 0 ≡ true) (sym c.in_ok-state.ensures)
    (near_all c.args.freed.now (acts_in c.args.actors.now) c.requires.secure.tree c.args.access.1 c.requires.object)

pub lean-requires-clause-brings : goal.lean-requires-clause-brings
lean-requires-clause-brings c =
    (leads_from (acts_in c.args.actors.now) c.args.freed.now c.in_ok-state.state c.bring-done.new.state c.new-requests.result.items c.bring-done.new.script.items c.args.access
    c.in_ok-state.ensures c.new-requests.ensures.items c.in-Ok.ensures).0

pub lean-requires-clause-of_actors : goal.lean-requires-clause-of_actors
lean-requires-clause-of_actors c =
    (leads_from (acts_in c.args.actors.now) c.args.freed.now c.in_ok-state.state c.bring-done.new.state c.new-requests.result.items c.bring-done.new.script.items c.args.access
    c.in_ok-state.ensures c.new-requests.ensures.items c.in-Ok.ensures).1
