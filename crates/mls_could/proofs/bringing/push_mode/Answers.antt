use Rattle.std.proofs.lemmas.Bool.{and_parts}
use Rattle.mls_state.specs.State.{is_subject, is_active}
use Rattle.mls_futures.proofs.Laws.{got_qualifies}
use Rattle.mls_could.specs.Outsets.{acts_of}
use Rattle.mls_could.proofs.bringing.push_mode.Goals as goal

pub discretionary_holds-requires-clause-subject : goal.discretionary_holds-requires-clause-subject
discretionary_holds-requires-clause-subject c =
    (and_parts (is_subject c.args.state.now c.args.s) (is_active c.args.state.now c.args.o)
    ((got_qualifies c.args.state.now (acts_of c.args.outset.now) c.args.s c.args.o c.args.x (c.could.ensures.0 c.if-could.true)).known)).0

pub discretionary_holds-requires-clause-object : goal.discretionary_holds-requires-clause-object
discretionary_holds-requires-clause-object c =
    (and_parts (is_subject c.args.state.now c.args.s) (is_active c.args.state.now c.args.o)
    ((got_qualifies c.args.state.now (acts_of c.args.outset.now) c.args.s c.args.o c.args.x (c.could.ensures.0 c.if-could.true)).known)).1
