use Rattle.std.proofs.Common.{◌∙◌}
use Rattle.mls_futures.specs.Closure.{acts_in}
use Rattle.mls_futures.proofs.Laws.{got_qualifies, known_still, to_release}
use Rattle.mls_ways.proofs.Laws.{near_all, got_known}
use Rattle.mls_flow_ways.proofs.Carried.{carries_seen, carries_left}
use Rattle.mls_flow_ways.proofs.carrying.carry_by.Goals as goal

pub bring-requires-clause-near : goal.bring-requires-clause-near
bring-requires-clause-near c =
    let acts = acts_in c.args.actors.now in
    near_all c.args.state.now acts c.requires.secure.tree c.args.o (got_known c.args.state.now acts c.args.s c.args.o c.args.x c.requires.could).1

pub ask-requires : goal.ask-requires
ask-requires c =
    let acts = acts_in c.args.actors.now in
    let known = got_known c.args.state.now acts c.args.s c.args.o c.args.x c.requires.could in
    (to_release acts c.bring.new.state c.in_ok-bring.ensures.secure c.in_ok-bring.ensures.within c.args.s c.args.o c.args.x
    (got_qualifies c.args.state.now acts c.args.s c.args.o c.args.x c.requires.could).actor
    (known_still acts c.args.state.now c.bring.new.state c.in_ok-bring.ensures.alike c.args.s known.0) (c.in_ok-bring.ensures.alike.active c.args.o ∙ known.1)
    c.in_ok-bring.ensures.now).grant

pub returns-clause-seen : goal.returns-clause-seen
returns-clause-seen c =
    carries_seen (acts_in c.args.actors.now) c.args.state.now c.bring.new.state c.ask.new.state c.args.script.now.items c.bring.new.script.items c.ask.new.script.items c.args.s
    c.args.o c.args.x c.requires.secure c.requires.could c.in_ok-bring.ensures c.in_ok-ask.ensures.state c.in_ok-ask.ensures.script

pub returns-clause-left : goal.returns-clause-left
returns-clause-left c =
    carries_left (acts_in c.args.actors.now) c.args.state.now c.bring.new.state c.ask.new.state c.args.script.now.items c.bring.new.script.items c.ask.new.script.items c.args.s
    c.args.o c.args.x c.requires.secure c.requires.could c.in_ok-bring.ensures c.in_ok-ask.ensures.state c.in_ok-ask.ensures.script
