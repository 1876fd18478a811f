use Rattle.std.proofs.Common.{refl}
use Rattle.mls_tables.specs.declared.mode.Mode.TheVariants.{Read}
use Rattle.mls_futures.specs.Closure.{acts_in}
use Rattle.mls_futures.specs.Futures.{HoldsNothing}
use Rattle.mls_flows.specs.declared.place.Place.TheVariants.{Subject, Object}
use Rattle.mls_flows.proofs.Laws.{could_grown}
use Rattle.mls_flow_ways.specs.Carries.{IsIdleAt, IsMadeFor}
use Rattle.mls_flow_ways.proofs.Carried.{carries_so, carries_then}
use Rattle.mls_flow_ways.proofs.handing.hand_on.Goals as goal

pub carry_by-requires-2-clause-could : goal.carry_by-requires-2-clause-could
carry_by-requires-2-clause-could c =
    could_grown (acts_in c.args.actors.now) c.make.new.state c.carry_by.new.state (c.in_ok-carry_by.ensures.left refl).grown c.args.t c.in_ok-child.child Read
    c.in_ok-child.ensures.now.reads

pub returns : goal.returns
returns c =
    let acts = acts_in c.args.actors.now in
    carries_then acts c.args.state.now c.make.new.state c.carry_by-2.new.state c.args.script.now.items c.make.new.script.items c.carry_by-2.new.script.items
    (Subject c.args.s) (Subject c.args.s) (Subject c.args.t) (IsMadeFor acts c.args.s c.args.t c.in_ok-child.child) HoldsNothing c.in_ok-child.ensures
    (carries_then acts c.make.new.state c.carry_by.new.state c.carry_by-2.new.state c.make.new.script.items c.carry_by.new.script.items c.carry_by-2.new.script.items
    (Subject c.args.s) (Object c.in_ok-child.child) (Subject c.args.t) (IsIdleAt c.make.new.state.next) HoldsNothing (c.in_ok-carry_by.ensures.left refl)
    (carries_so acts c.carry_by.new.state c.carry_by-2.new.state c.carry_by.new.script.items c.carry_by-2.new.script.items (Object c.in_ok-child.child)
    (Subject c.args.t) (IsIdleAt c.carry_by.new.state.next) HoldsNothing (λ idle. idle.0) (c.in_ok-carry_by-2.ensures.seen refl)))
