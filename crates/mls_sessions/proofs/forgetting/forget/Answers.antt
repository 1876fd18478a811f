use Rattle.std.proofs.Common.{true≢false, sym, ap, ◌∙◌, length, []}
use Rattle.mls_sessions.proofs.CellsKeep.{frees_at}
use Rattle.mls_sessions.proofs.Turns.{freed_is, freed_more, freed_seat, freed_history, freed_forgets, freed_sees}
use Rattle.mls_sessions.proofs.forgetting.forget.Goals as goal

pub put_home-is_marked-requires-clause-rule : goal.put_home-is_marked-requires-clause-rule
put_home-is_marked-requires-clause-rule c = let key = c.args.gate.now.key in let held = c.requires.session in λ legal.
    frees_at key _ _ _ [] (ap (λ m. m.0) held.0) _ legal _ (freed_is key _ (ap (λ m. m.0) held.0) c.args.monitor _ held.1 _ c.forget.ensures)
    (freed_more key _ (ap (λ m. m.0) held.0) c.args.monitor _ held.1 _ c.forget.ensures) (λ last. absurd (true≢false (sym last ∙ c.requires.forgets)))

pub returns-clause-seen : goal.returns-clause-seen
returns-clause-seen c = let held = c.requires.session in
    freed_sees c.args.gate.now.key _ (ap (λ m. m.0) held.0) c.args.monitor _ held.1 _ c.forget.ensures _ c.put_home-is_marked.ensures.told.1 c.requires.before c.put_home-is_marked.ensures.legal

pub returns-clause-forgets : goal.returns-clause-forgets
returns-clause-forgets c = let held = c.requires.session in
    freed_forgets c.args.gate.now.key _ (ap (λ m. m.0) held.0) c.args.monitor _ held.1 _ c.forget.ensures _ c.put_home-is_marked.ensures.told.1 c.requires.before

pub returns-clause-session : goal.returns-clause-session
returns-clause-session c = let held = c.requires.session in freed_seat c.args.gate.now.key _ (ap (λ m. m.0) held.0) c.args.monitor _ held.1 _ c.forget.ensures _ c.put_home-is_marked.ensures.told.1

pub returns-clause-counts : goal.returns-clause-counts
returns-clause-counts c = let held = c.requires.session in
    c.saw.ensures.seen ∙ c.next_number-number.ensures ∙ sym (ap (λ es. length es) (freed_history c.args.gate.now.key _ (ap (λ m. m.0) held.0) c.args.monitor _ held.1 _ c.forget.ensures _ c.put_home-is_marked.ensures.told.1))
