use Rattle.std.proofs.Common.{ap, sym, ◌∙◌, ◌≡◌, ◌∷◌, [], Some, length}
use Rattle.mls_state.specs.State.{State}
use Rattle.mls_rules.specs.Rules.{reply}
use Rattle.mls_sessions.specs.Steps.{updated_view}
use Rattle.mls_sessions.proofs.Turns.{sees, home_seat, home_forgets_none, home_history, home_state}
use Rattle.mls_sessions.proofs.consulting.consult.Goals as goal
use Rattle.mls_sessions.proofs.consulting.consult.Goals.{After-saw}

-- the seat, by the view that the session had
left : (c : After-saw) → c.bring_home-may_sleep.new.seat.me ≡ (updated_view c.args.seat.now.me.0 ((0, Some c.args.monitor) ∷ []), [])
left c = c.bring_home-may_sleep.ensures.told

pub returns-clause-seen : goal.returns-clause-seen
returns-clause-seen c = let held = c.requires.session in
    sees c.args.gate.now.key _ (ap (λ m. m.0) held.0) c.args.monitor held.1 c.requires.before c.bring_home-may_sleep.ensures.legal _ (left c)

pub returns-clause-session : goal.returns-clause-session
returns-clause-session c = let held = c.requires.session in home_seat c.args.gate.now.key _ (ap (λ m. m.0) held.0) c.args.monitor held.1 _ (left c)

pub returns-clause-number : goal.returns-clause-number
returns-clause-number c = let held = c.requires.session in
    c.next_number-number.ensures ∙ sym (ap (λ es. length es) (home_history c.args.gate.now.key _ (ap (λ m. m.0) held.0) c.args.monitor held.1 _ (left c)))

pub returns-clause-reply : goal.returns-clause-reply
returns-clause-reply c = let held = c.requires.session in
    c.decide-reply.ensures ∙ sym (ap (λ (z : State). reply z c.args.request.now) (home_state c.args.gate.now.key _ (ap (λ m. m.0) held.0) c.args.monitor held.1 _ (left c)))

pub returns-clause-counts : goal.returns-clause-counts
returns-clause-counts c = let held = c.requires.session in
    c.saw.ensures.seen ∙ c.next_number-number.ensures ∙ sym (ap (λ es. length es) (home_history c.args.gate.now.key _ (ap (λ m. m.0) held.0) c.args.monitor held.1 _ (left c)))

pub returns-clause-stays : goal.returns-clause-stays
returns-clause-stays c = let held = c.requires.session in home_forgets_none c.args.gate.now.key _ (ap (λ m. m.0) held.0) c.args.monitor held.1 _ (left c)
