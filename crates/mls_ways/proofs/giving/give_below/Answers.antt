use Rattle.std.proofs.Common.{◌≡◌, true}
use Rattle.std.specs.FinSet as set
use Rattle.mls_tables.specs.declared.mode.Mode.TheVariants.{Write}
use Rattle.mls_state.specs.State.{State}
use Rattle.mls_futures.specs.Closure.{acts_in}
use Rattle.mls_futures.proofs.Laws.{give, release}
use Rattle.mls_ways.specs.Ways.{IsPermitted}
use Rattle.mls_ways.proofs.Leading.{leads_by, leads_on}
use Rattle.mls_ways.proofs.Making.{give_step, give_then}
use Rattle.mls_ways.proofs.giving.give_below.Goals as goal

pub ask-requires : goal.ask-requires
ask-requires c =
    (give_step (acts_in c.args.actors.now) c.args.state.now c.requires.secure c.requires.within c.args.giver c.args.p c.args.access.0 c.args.access.1 c.args.access.2 c.requires.holds
    c.requires.actor c.requires.parent c.requires.subject c.requires.object).grant

pub ask-requires-2 : goal.ask-requires-2
ask-requires-2 c =
    (give_then (acts_in c.args.actors.now) c.args.state.now c.requires.secure c.requires.within c.args.giver c.args.p c.args.access.0 c.args.access.1 c.args.access.2 c.requires.holds
    c.requires.actor c.requires.parent c.requires.subject c.requires.object
    c.ask.new.state c.in_ok-ask.ensures.state).grant

pub returns : goal.returns
returns c =
    let acts = acts_in c.args.actors.now in
    let s = c.args.access.0 in
    let o = c.args.access.1 in
    let x = c.args.access.2 in
    leads_on acts c.args.state.now c.ask.new.state c.ask-2.new.state c.args.script.now.items c.ask.new.script.items c.ask-2.new.script.items
    (λ w. (w.accesses ≡ c.args.state.now.accesses) × (set.contains w.matrix (s, o, x) ≡ true)) (IsPermitted (s, o, x))
    (leads_by acts c.args.state.now (give c.args.giver s o x) c.ask.new.state c.args.script.now.items c.ask.new.script.items
    (λ (w : State). (w.accesses ≡ c.args.state.now.accesses) × (set.contains w.matrix (s, o, x) ≡ true))
    (give_step (acts_in c.args.actors.now) c.args.state.now c.requires.secure c.requires.within c.args.giver c.args.p c.args.access.0 c.args.access.1 c.args.access.2 c.requires.holds
    c.requires.actor c.requires.parent c.requires.subject c.requires.object)
    c.in_ok-ask.ensures.state c.in_ok-ask.ensures.script)
    (leads_by acts c.ask.new.state (release c.args.giver c.args.p Write) c.ask-2.new.state c.ask.new.script.items c.ask-2.new.script.items (IsPermitted (s, o, x))
    (give_then (acts_in c.args.actors.now) c.args.state.now c.requires.secure c.requires.within c.args.giver c.args.p c.args.access.0 c.args.access.1 c.args.access.2 c.requires.holds
    c.requires.actor c.requires.parent c.requires.subject c.requires.object
    c.ask.new.state c.in_ok-ask.ensures.state)
    c.in_ok-ask-2.ensures.state c.in_ok-ask-2.ensures.script)
