use Rattle.std.proofs.Common.{arith, ap, ◌∙◌}
use Rattle.mls_sessions.specs.Steps.{Seat}
use Rattle.mls_sessions.specs.Sessions.{number_of}
use Rattle.mls_sessions.proofs.Handing.{leads_first, leads_past, leads_same, for_store}
use Rattle.mls_sessions.proofs.publishing.publish_one.Goals as goal

pub returns-in_default-clause-leads : goal.returns-in_default-clause-leads
returns-in_default-clause-leads c = let cells = c.requires.office.2 in
    leads_past c.args.gate.now.key c.args.seat.now.me c.args.entry.now c.args.monitor c.requires.holds c.requires.entry _ _ _ c.requires.touch.0 c.requires.touch.1 (λ small. (let past = c.in_default.ensures.none small in omega arith))

pub returns-then-word-old-clause-leads : goal.returns-then-word-old-clause-leads
returns-then-word-old-clause-leads c = let cells = c.requires.office.2 in let at = c.in-Some.ensures.some in let told = c.word_after-word.ensures in
    leads_same c.args.gate.now.key c.args.seat.now.me c.args.entry.now c.args.monitor c.requires.holds c.requires.entry _ _ _ c.requires.touch.0 c.requires.touch.1 c.in-Some.at c.read-old.result c.word_after-word.result at.0 (let few = at.1 in omega arith) at.2
    c.read-old.new.seat.me c.read-old.ensures.noted c.read-old.ensures.agrees c.read-old.ensures.tells told.blank (λ some. told.same some ∙ c.makes_access.ensures) told.others c.if-word-old.true

pub store_word-requires-clause-entries : goal.store_word-requires-clause-entries
store_word-requires-clause-entries c = let cells = c.requires.office.2 in let at = c.in-Some.ensures.some in let told = c.word_after-word.ensures in
    for_store c.args.gate.now.key c.args.seat.now.me c.args.entry.now c.args.monitor c.requires.holds c.requires.entry _ _ _ c.requires.touch.0 c.requires.touch.1 c.in-Some.at c.read-old.result c.word_after-word.result at.0 (let few = at.1 in omega arith) at.2
    c.read-old.new.seat.me c.read-old.ensures.noted c.read-old.ensures.agrees c.read-old.ensures.tells told.blank (λ some. told.same some ∙ c.makes_access.ensures) told.others

pub returns-clause-leads : goal.returns-clause-leads
returns-clause-leads c = (leads_first c.args.gate.now.key _ _ c.store_word.ensures.holds.0, c.store_word.ensures.holds.1 ∙ ap (λ (z : Seat). number_of z.0) c.read-old.ensures.noted)
