use Rattle.std.proofs.Common.{◌≡◌, sym, subst}
use Rattle.mls_requests.specs.declared.action.Action.TheVariants.{ObjectLevel}
use Rattle.mls_requests.specs.declared.reply.Reply.TheVariants.{Yes}
use Rattle.mls_rules.specs.Rules.{reply}
use Rattle.mls_futures.specs.Closure.{acts_in}
use Rattle.mls_futures.proofs.Laws.{IsStep}
use Rattle.mls_ways.specs.Ways.{asks, IsLowered}
use Rattle.mls_ways.proofs.Leading.{leads_nowhere, leads_by}
use Rattle.mls_ways.proofs.Making.{lower_step}
use Rattle.mls_ways.proofs.lowering.lower.Goals as goal

pub returns-then-is_lowered : goal.returns-then-is_lowered
returns-then-is_lowered c =
    leads_nowhere (acts_in c.args.actors.now) c.args.state.now c.args.script.now.items (IsLowered c.args.o) c.requires.secure c.requires.within
    (c.requires.nothing, c.is_lowered.ensures c.if-is_lowered.true)

pub ask-requires : goal.ask-requires
ask-requires c =
    subst (λ l. reply c.args.state.now (asks c.in-Some.subject (ObjectLevel c.args.o l)) ≡ Yes) (sym c.least_label.ensures)
    (lower_step (acts_in c.args.actors.now) c.args.state.now c.requires.secure c.requires.within c.agrees.ensures.whole c.in-Some.subject c.args.o c.in-Some.ensures c.requires.object
    c.requires.nothing c.requires.above).grant

pub returns-in_ok-ask-in-Some : goal.returns-in_ok-ask-in-Some
returns-in_ok-ask-in-Some c =
    leads_by (acts_in c.args.actors.now) c.args.state.now (asks c.in-Some.subject (ObjectLevel c.args.o c.least_label.result)) c.ask.new.state c.args.script.now.items c.ask.new.script.items
    (IsLowered c.args.o)
    (subst (λ l. IsStep (acts_in c.args.actors.now) c.args.state.now (asks c.in-Some.subject (ObjectLevel c.args.o l)) (IsLowered c.args.o)) (sym c.least_label.ensures)
    (lower_step (acts_in c.args.actors.now) c.args.state.now c.requires.secure c.requires.within c.agrees.ensures.whole c.in-Some.subject c.args.o c.in-Some.ensures c.requires.object
    c.requires.nothing c.requires.above))
    c.in_ok-ask-in-Some.ensures.state c.in_ok-ask-in-Some.ensures.script

pub returns-in-None : goal.returns-in-None
returns-in-None c = absurd (c.in-None.ensures c.requires.trusted)
