use Rattle.std.proofs.Common.{rules, ◌∷◌, [], sym, ap, ◌∙◌, subst}
use mathlib.Core.Option as maybe
use Rattle.atomic_table.specs.Table.{step, Allows, Splits}
use Rattle.mls_sessions.specs.declared.gate_table.View.{View}
use Rattle.mls_sessions.specs.declared.gate_table.View.TheVariants.{Spent}
use Rattle.mls_sessions.specs.Rule.{Gated}
use Rattle.mls_sessions.specs.Steps.{Seat, looked, first_of_two, second_of_two}
use Rattle.mls_sessions.specs.Sessions.{member_of}
use Rattle.mls_sessions.proofs.SeatsKeep.{joins_at}
use Rattle.mls_sessions.proofs.Meetings.{moves, looks_two, parts, joined_as}
use Rattle.mls_sessions.proofs.meeting.meet_at.Goals as goal

pub split_seat-whole-requires : goal.split_seat-whole-requires
split_seat-whole-requires c = let key = c.args.gate.now.key in let y = member_of c.args.theirs.now.me.0 in
    (search rules, search rules, subst (λ (v : View). Splits (Gated key) c.args.theirs.now.id v Spent v) (sym (ap (λ m. m.0) c.requires.sessions.1)) (moves key c.args.theirs.now.id (y ∷ [])))

pub join_seat-requires : goal.join_seat-requires
join_seat-requires c = let key = c.args.gate.now.key in let theirs = ap (λ m. m.0) c.split_seat-whole.ensures.4 ∙ ap (λ m. m.0) c.requires.sessions.1 in
    (search rules, search rules, search rules, search rules, joins_at key _ _ (member_of c.args.mine.now.me.0 ∷ []) (member_of c.args.theirs.now.me.0 ∷ []) _ _ (ap (λ m. m.0) c.requires.sessions.0) theirs)

pub load-requires : goal.load-requires
load-requires c = let key = c.args.gate.now.key in let slots = c.args.gate.now.table_id.slots in let id = c.join_seat.new.seat.id in
    let joined = joined_as key c.args.mine.now.me c.args.theirs.now.me c.split_seat-whole.result.me c.join_seat.new.seat.me _ _ c.requires.sessions.0 c.requires.sessions.1 c.split_seat-whole.ensures.4 c.join_seat.ensures.2 in
    (search rules, search rules, subst (λ (m : Seat). Allows (Gated key) slots id m 0 (λ k. k) (looked (step slots 0 0 0 maybe.none) m)) (sym joined) (looks_two key slots id _ _))

pub split_seat-requires : goal.split_seat-requires
split_seat-requires c = let key = c.args.gate.now.key in
    let joined = joined_as key c.args.mine.now.me c.args.theirs.now.me c.split_seat-whole.result.me c.join_seat.new.seat.me _ _ c.requires.sessions.0 c.requires.sessions.1 c.split_seat-whole.ensures.4 c.join_seat.ensures.2 in
    let is = ap (λ m. m.0) (c.load.ensures.2.0 ∙ joined) in
    (search rules, search rules, subst (λ (v : View). Splits (Gated key) c.load.new.seat.id v (first_of_two v) (second_of_two v)) (sym is) (parts key c.load.new.seat.id (member_of c.args.mine.now.me.0) (member_of c.args.theirs.now.me.0)))

pub returns-clause-longer : goal.returns-clause-longer
returns-clause-longer c = let key = c.args.gate.now.key in
    let joined = joined_as key c.args.mine.now.me c.args.theirs.now.me c.split_seat-whole.result.me c.join_seat.new.seat.me _ _ c.requires.sessions.0 c.requires.sessions.1 c.split_seat-whole.ensures.4 c.join_seat.ensures.2 in
    let is = c.load.ensures.2.0 ∙ joined in (
      c.load.ensures.2.1 key _ _ (ap (λ m. m.0) joined),
      c.split_seat.ensures.2 ∙ (λ k. (first_of_two (is k).0, (is k).1)),
      c.split_seat.ensures.4 ∙ (λ k. (second_of_two (is k).0, [])),
    )
