use Rattle.std.proofs.Common.{◌≡◌, true, false, sym, ap, subst, ◌∙◌}
use Rattle.std.specs.FinMap as map
use Rattle.mls_requests.specs.declared.reply.Reply.TheVariants.{Yes}
use Rattle.mls_rules.specs.Rules.{reply, after}
use Rattle.mls_futures.specs.Closure.{acts_in}
use Rattle.mls_futures.proofs.Laws.{IsStep, level}
use Rattle.mls_ways.specs.Ways.{IsReady, level_for}
use Rattle.mls_ways.proofs.Leading.{leads_nowhere, leads_by}
use Rattle.mls_ways.proofs.Making.{level_step}
use Rattle.mls_ways.proofs.obtaining.make_ready.Goals as goal

pub returns-then-star_holds : goal.returns-then-star_holds
returns-then-star_holds c =
    leads_nowhere (acts_in c.args.actors.now) c.args.state.now c.args.script.now.items (IsReady c.args.s c.args.o c.args.x) c.requires.secure c.requires.within
    (c.requires.cleared.0, c.requires.cleared.1, sym c.star_holds.ensures ∙ c.if-star_holds.true)

pub ask-requires : goal.ask-requires
ask-requires c =
    subst (λ l. reply c.args.state.now (level c.args.s l) ≡ Yes) (sym c.level_for-level.ensures)
    (level_step (acts_in c.args.actors.now) c.args.state.now c.requires.secure c.requires.within c.args.s c.args.o c.requires.actor c.requires.subject c.requires.object c.args.x
    c.requires.cleared (sym c.star_holds.ensures ∙ c.if-star_holds.false)).grant

pub returns : goal.returns
returns c =
    leads_by (acts_in c.args.actors.now) c.args.state.now (level c.args.s c.level_for-level.result) c.ask.new.state c.args.script.now.items c.ask.new.script.items
    (IsReady c.args.s c.args.o c.args.x)
    (subst (λ l. IsStep (acts_in c.args.actors.now) c.args.state.now (level c.args.s l) (IsReady c.args.s c.args.o c.args.x)) (sym c.level_for-level.ensures)
    (level_step (acts_in c.args.actors.now) c.args.state.now c.requires.secure c.requires.within c.args.s c.args.o c.requires.actor c.requires.subject c.requires.object c.args.x
    c.requires.cleared (sym c.star_holds.ensures ∙ c.if-star_holds.false)))
    c.in_ok-ask.ensures.state c.in_ok-ask.ensures.script
