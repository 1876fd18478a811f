use Rattle.std.proofs.Common.{ap, sym, subst, ◌∙◌, length}
use Rattle.mls_turns.specs.Journals.{Journal}
use Rattle.mls_sessions.proofs.Turns.{sees, home_seat, home_forgets_none, home_history, home_journal}
use Rattle.mls_sessions.proofs.consulting.inquire.Goals as goal

pub returns-clause-seen : goal.returns-clause-seen
returns-clause-seen g c = let held = c.requires.session in
    sees c.args.gate.now.key _ (ap (λ m. m.0) held.0) c.args.monitor held.1 c.requires.before c.bring_home-is_marked.ensures.legal _ c.bring_home-is_marked.ensures.told

pub returns-clause-session : goal.returns-clause-session
returns-clause-session g c = let held = c.requires.session in home_seat c.args.gate.now.key _ (ap (λ m. m.0) held.0) c.args.monitor held.1 _ c.bring_home-is_marked.ensures.told

pub returns-clause-found : goal.returns-clause-found
returns-clause-found g c = let held = c.requires.session in
    subst (λ (j : Journal). g.Q.Question.finds c.args.question.now j c.look.new.self) (c.monitor.ensures ∙ sym (home_journal c.args.gate.now.key _ (ap (λ m. m.0) held.0) c.args.monitor held.1 _ c.bring_home-is_marked.ensures.told)) c.look.ensures

pub returns-clause-counts : goal.returns-clause-counts
returns-clause-counts g c = let held = c.requires.session in
    c.saw.ensures.seen ∙ c.next_number-number.ensures ∙ sym (ap (λ es. length es) (home_history c.args.gate.now.key _ (ap (λ m. m.0) held.0) c.args.monitor held.1 _ c.bring_home-is_marked.ensures.told))

pub returns-clause-stays : goal.returns-clause-stays
returns-clause-stays g c = let held = c.requires.session in
    home_forgets_none c.args.gate.now.key _ (ap (λ m. m.0) held.0) c.args.monitor held.1 _ c.bring_home-is_marked.ensures.told
