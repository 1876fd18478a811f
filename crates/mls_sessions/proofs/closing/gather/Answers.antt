use Rattle.std.proofs.Common.{rules, ◌≡◌, ◌∷◌, ◌++◌, [], List, sym, ap, ◌∙◌, subst, append_assoc}
use Rattle.mls_sessions.specs.declared.gate_table.View.TheVariants.{Sessions}
use Rattle.mls_sessions.specs.declared.gate_table.Member.{Member}
use Rattle.mls_sessions.specs.Steps.{both_of}
use Rattle.mls_sessions.specs.Sessions.{office_at, member_of, IsOf, members_of, members_in, Ascending}
use Rattle.mls_sessions.proofs.SeatsKeep.{joins_at, listed, members-append, ascending_last}
use Rattle.mls_sessions.proofs.closing.gather.Goals as goal

pub loop-next-init : goal.loop-next-init
loop-next-init c = let o = office_at c.args.gate.now.table_id c.args.gate.now.key in let rest = c.pop.new.self.items in let last = c.in-Some.last in
    let cut : c.args.sessions.items ≡ rest ++ last ∷ [] = c.in-Some.ensures.items in
    let up = ascending_last o 0 rest last (subst (λ ss. Ascending o 0 ss) cut c.requires.office.0) in let seat = c.into_seat-all.result in
    let is : seat.me ≡ (Sessions c.args.gate.now.key (member_of last.view ∷ []), []) = c.into_seat-all.ensures.1 ∙ ap (λ v. (v, [])) up.1.1 in (
      c.into_seat-all.ensures.0 ∙ up.1.0,
      listed c.args.gate.now.key seat.me _ is,
      ap (λ m. members_of rest ++ members_in m.0) is ∙ (sym (members-append rest last) ∙ sym (ap members_of cut)),
      up.0,
    )

-- what the list before the last session is, and that its seat has the session
rest_up : (c : goal.After-seat-1) → Ascending (office_at c.args.gate.now.table_id c.args.gate.now.key) 0 c.pop-in-loop-next.new.self.items × IsOf (office_at c.args.gate.now.table_id c.args.gate.now.key) c.in-Some-pop.next
rest_up c = let o = office_at c.args.gate.now.table_id c.args.gate.now.key in
    ascending_last o 0 c.pop-in-loop-next.new.self.items c.in-Some-pop.next (subst (λ ss. Ascending o 0 ss) c.in-Some-pop.ensures.items c.loop-next.invariant.3)

seat_is : (c : goal.After-seat-1) → c.into_seat-seat.result.me ≡ (Sessions c.args.gate.now.key (member_of c.in-Some-pop.next.view ∷ []), [])
seat_is c = c.into_seat-seat.ensures.1 ∙ ap (λ v. (v, [])) (rest_up c).1.1

pub join_seat-requires : goal.join_seat-requires
join_seat-requires c = let had = c.loop-next.invariant in (
  c.into_seat-seat.ensures.0 ∙ (rest_up c).1.0,
  had.0,
  ap (λ m. m.1) had.1,
  search rules,
  joins_at c.args.gate.now.key _ _ _ _ _ _ (ap (λ m. m.0) (seat_is c)) (ap (λ m. m.0) had.1),
)

pub loop-next-preserved : goal.loop-next-preserved
loop-next-preserved c = let key = c.args.gate.now.key in let had = c.loop-next.invariant in let is = seat_is c.before in let next = c.in-Some-pop.next in let rest = c.pop-in-loop-next.new.self.items in
    let xs : List Member = members_in c.loop-next.all.me.0 in let i : Member = member_of next.view in
    let now : c.join_seat.new.seat.me ≡ (Sessions key (i ∷ xs), []) = c.join_seat.ensures.2 ∙ (λ k. (both_of (is k).0 (had.1 k).0, (is k).1)) in (
      c.join_seat.ensures.0 ∙ (c.into_seat-seat.ensures.0 ∙ (rest_up c.before).1.0),
      listed key c.join_seat.new.seat.me (i ∷ xs) now,
      ap (λ m. members_of rest ++ members_in m.0) now ∙ (sym (append_assoc (members_of rest) (i ∷ []) xs) ∙ (ap (λ is. is ++ xs) (sym (members-append rest next) ∙ sym (ap members_of c.in-Some-pop.ensures.items)) ∙ had.2)),
      (rest_up c.before).0,
    )
