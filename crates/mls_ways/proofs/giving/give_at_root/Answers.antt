use Rattle.mls_futures.specs.Closure.{acts_in}
use Rattle.mls_futures.proofs.Laws.{give}
use Rattle.mls_ways.specs.Ways.{IsPermitted}
use Rattle.mls_ways.proofs.Leading.{leads_by}
use Rattle.mls_ways.proofs.Making.{root_step}
use Rattle.mls_ways.proofs.giving.give_at_root.Goals as goal

pub ask-requires : goal.ask-requires
ask-requires c =
    (root_step (acts_in c.args.actors.now) c.args.state.now c.requires.secure c.requires.within c.agrees.ensures.whole c.in-Some.subject c.args.s c.args.o c.args.x c.in-Some.ensures
    c.requires.subject c.requires.root c.requires.nothing).grant

pub returns-in_ok-ask-in-Some : goal.returns-in_ok-ask-in-Some
returns-in_ok-ask-in-Some c =
    leads_by (acts_in c.args.actors.now) c.args.state.now (give c.in-Some.subject c.args.s c.args.o c.args.x) c.ask.new.state c.args.script.now.items c.ask.new.script.items
    (IsPermitted (c.args.s, c.args.o, c.args.x))
    (root_step (acts_in c.args.actors.now) c.args.state.now c.requires.secure c.requires.within c.agrees.ensures.whole c.in-Some.subject c.args.s c.args.o c.args.x c.in-Some.ensures
    c.requires.subject c.requires.root c.requires.nothing)
    c.in_ok-ask-in-Some.ensures.state c.in_ok-ask-in-Some.ensures.script

pub returns-in-None : goal.returns-in-None
returns-in-None c = absurd (c.in-None.ensures c.requires.trusted)
