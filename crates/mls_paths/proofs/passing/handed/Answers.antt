use Rattle.std.proofs.Common.{◌≡◌, true, false, Some, None, sym, ◌∙◌}
use Rattle.mls_paths.specs.Hands.{acts_of, has_room}
use Rattle.mls_paths.proofs.Hands.{no_maker}
use Rattle.mls_paths.proofs.Tables.{gives_not, makes_none, makes_some}
use Rattle.mls_paths.proofs.passing.handed.Goals as goal

pub returns-then-not-could_hand : goal.returns-then-not-could_hand
returns-then-not-could_hand c =
    no_maker c.args.state.now (acts_of c.args.ground) (has_room c.args.state.now) c.args.s c.args.t
    (gives_not c.args.state.now (acts_of c.args.ground) c.args.s c.args.t
    (λ giver. let is : c.could_hand.result ≡ true = c.could_hand.ensures.1 giver in let is_not = c.if-not-could_hand.true in cc))

pub returns-in-None : goal.returns-in-None
returns-in-None c =
    no_maker c.args.state.now (acts_of c.args.ground) (has_room c.args.state.now) c.args.s c.args.t
    (makes_none c.args.state.now (acts_of c.args.ground) c.args.takers.now c.args.s c.args.t c.requires.takers (sym c.is_subject.ensures ∙ c.if-not-is_subject.false)
    (sym c.in-None.is ∙ c.taker_at.ensures))

pub returns-in-Some : goal.returns-in-Some
returns-in-Some c =
    makes_some c.args.state.now (acts_of c.args.ground) c.args.takers.now c.args.s c.args.t c.in-Some.taker c.requires.takers
    (sym c.in-Some.is ∙ c.taker_at.ensures) (c.could_hand.ensures.0 c.if-not-could_hand.false)
