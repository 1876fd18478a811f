use Rattle.std.proofs.Common.{sym, ◌∙◌}
use Rattle.mls_futures.specs.Closure.{acts_in}
use Rattle.mls_futures.proofs.Laws.{known_still, qualifies_still, alike_on, get}
use Rattle.mls_ways.specs.Ways.{IsCleared, IsReady, HoldsOnly}
use Rattle.mls_ways.proofs.Leading.{leads_by, leads_on}
use Rattle.mls_ways.proofs.Making.{get_step}
use Rattle.mls_ways.proofs.obtaining.obtain.Goals as goal

pub make_ready-requires-clause-secure : goal.make_ready-requires-clause-secure
make_ready-requires-clause-secure c = c.in_ok-clear.ensures.secure

pub make_ready-requires-clause-within : goal.make_ready-requires-clause-within
make_ready-requires-clause-within c = c.in_ok-clear.ensures.within

pub make_ready-requires-clause-cleared : goal.make_ready-requires-clause-cleared
make_ready-requires-clause-cleared c = c.in_ok-clear.ensures.now

pub make_ready-requires-clause-subject : goal.make_ready-requires-clause-subject
make_ready-requires-clause-subject c = known_still (acts_in c.args.actors.now) c.args.state.now c.clear.new.state c.in_ok-clear.ensures.alike c.args.s c.requires.subject

pub make_ready-requires-clause-object : goal.make_ready-requires-clause-object
make_ready-requires-clause-object c = c.in_ok-clear.ensures.alike.active c.args.o ∙ c.requires.object

pub make_ready-requires-clause-actor : goal.make_ready-requires-clause-actor
make_ready-requires-clause-actor c = c.requires.qualifies.actor

pub ask-requires : goal.ask-requires
ask-requires c =
    let acts = acts_in c.args.actors.now in
    let f = alike_on acts c.args.state.now c.clear.new.state c.make_ready.new.state c.in_ok-clear.ensures.alike c.in_ok-make_ready.ensures.alike in
    (get_step acts c.make_ready.new.state c.in_ok-make_ready.ensures.secure c.in_ok-make_ready.ensures.within c.args.s c.args.o c.requires.qualifies.actor
    (known_still acts c.args.state.now c.make_ready.new.state f c.args.s c.requires.subject) (f.active c.args.o ∙ c.requires.object) c.args.x c.in_ok-make_ready.ensures.now
    (f.matrix (c.args.s, c.args.o, c.args.x) c.requires.permitted)
    (qualifies_still acts c.args.state.now c.make_ready.new.state f c.args.s c.args.o c.args.x c.requires.qualifies)).grant

pub returns : goal.returns
returns c =
    let acts = acts_in c.args.actors.now in
    let f = alike_on acts c.args.state.now c.clear.new.state c.make_ready.new.state c.in_ok-clear.ensures.alike c.in_ok-make_ready.ensures.alike in
    leads_on acts c.args.state.now c.clear.new.state c.ask.new.state c.args.script.now.items c.clear.new.script.items c.ask.new.script.items
    (IsCleared c.args.s c.args.o c.args.x) (HoldsOnly (c.args.s, c.args.o, c.args.x)) c.in_ok-clear.ensures
    (leads_on acts c.clear.new.state c.make_ready.new.state c.ask.new.state c.clear.new.script.items c.make_ready.new.script.items c.ask.new.script.items
    (IsReady c.args.s c.args.o c.args.x) (HoldsOnly (c.args.s, c.args.o, c.args.x)) c.in_ok-make_ready.ensures
    (leads_by acts c.make_ready.new.state (get c.args.s c.args.o c.args.x) c.ask.new.state c.make_ready.new.script.items c.ask.new.script.items
    (HoldsOnly (c.args.s, c.args.o, c.args.x))
    (get_step acts c.make_ready.new.state c.in_ok-make_ready.ensures.secure c.in_ok-make_ready.ensures.within c.args.s c.args.o c.requires.qualifies.actor
    (known_still acts c.args.state.now c.make_ready.new.state f c.args.s c.requires.subject) (f.active c.args.o ∙ c.requires.object) c.args.x c.in_ok-make_ready.ensures.now
    (f.matrix (c.args.s, c.args.o, c.args.x) c.requires.permitted)
    (qualifies_still acts c.args.state.now c.make_ready.new.state f c.args.s c.args.o c.args.x c.requires.qualifies))
    c.in_ok-ask.ensures.state c.in_ok-ask.ensures.script))
