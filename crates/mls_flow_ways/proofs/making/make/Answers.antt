use Rattle.mls_tables.specs.declared.mode.Mode.TheVariants.{Write}
use Rattle.mls_futures.specs.Closure.{acts_in}
use Rattle.mls_futures.proofs.Laws.{got_qualifies}
use Rattle.mls_flows.specs.declared.place.Place.TheVariants.{Subject}
use Rattle.mls_flows.proofs.Laws.{known_grown}
use Rattle.mls_flow_ways.specs.Carries.{IsBegun, IsMadeFor}
use Rattle.mls_flow_ways.proofs.Begun.{maker_known}
use Rattle.mls_flow_ways.proofs.Carried.{carries_then}
use Rattle.mls_flow_ways.proofs.making.make.Goals as goal

pub permit-requires-clause-maker : goal.permit-requires-clause-maker
permit-requires-clause-maker c =
    let acts = acts_in c.args.actors.now in (
      (got_qualifies c.args.state.now acts c.args.maker c.args.parent Write c.requires.could.takes.makes).actor,
      known_grown acts c.args.state.now c.begin.new.state c.in_ok-begin.ensures.grown c.args.maker
          (maker_known acts c.args.state.now c.requires.secure c.agrees.ensures.whole c.requires.bound c.args.s c.args.t c.args.maker c.args.parent c.requires.could),
    )

pub returns : goal.returns
returns c =
    let acts = acts_in c.args.actors.now in
    carries_then acts c.args.state.now c.begin.new.state c.permit.new.state c.args.script.now.items c.begin.new.script.items c.permit.new.script.items (Subject c.args.s)
    (Subject c.args.s) (Subject c.args.s) (IsBegun acts c.args.s c.args.t c.args.maker c.args.parent c.args.state.now.next)
    (IsMadeFor acts c.args.s c.args.t c.new-child.result) c.in_ok-begin.ensures c.in_ok-permit.ensures
