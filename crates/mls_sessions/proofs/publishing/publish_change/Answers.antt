use Rattle.std.proofs.Common.{arith, sym, subst, ◌∙◌}
use Rattle.mls_monitor.specs.Journal.{fold}
use Rattle.mls_turns.specs.Journals.{Journal}
use Rattle.mls_sessions.specs.Cells.{Tells}
use Rattle.mls_sessions.proofs.Handing.{counts_past, counts_blank, told_new, told_in_hand, for_refresh}
use Rattle.mls_sessions.proofs.publishing.publish_change.Goals as goal

pub count_change-requires-clause-entries : goal.count_change-requires-clause-entries
count_change-requires-clause-entries c = let cells = c.requires.office.2 in
    counts_past c.args.gate.now.key c.args.seat.now.me c.args.entry.now c.args.monitor c.requires.holds c.requires.entry _ _ _ c.requires.touch.0 c.requires.touch.1 (λ small. (let past = c.in_default.ensures.none small in omega arith))

pub count_change-monitor-requires-clause-entries : goal.count_change-monitor-requires-clause-entries
count_change-monitor-requires-clause-entries c =
    counts_blank c.args.gate.now.key c.args.seat.now.me c.args.entry.now c.args.monitor c.requires.holds c.requires.entry _ _ _ c.requires.touch.0 c.requires.touch.1 c.in-Some.at c.in-Some.ensures.some.0
    c.hide-old.new.seat.me c.hide-old.ensures.holds c.hide-old.ensures.finer c.hide-old.ensures.blank

pub store_word-requires-clause-entries : goal.store_word-requires-clause-entries
store_word-requires-clause-entries c = let key = c.args.gate.now.key in let me = c.args.seat.now.me in let e = c.args.entry.now in let cells = c.requires.office.2 in let at = c.in-Some.ensures.some in
    let old = c.hide-old.ensures in let told = c.word_after-word.ensures in let then = c.count_change-monitor.ensures in let word = c.word_after-word.result in
    for_refresh key c.count_change-monitor.result c.count_change-monitor.new.seat.me c.in-Some.at word then.holds.0
    (subst (λ (b : Journal). Tells (fold b.start b.entries) c.in-Some.at word) (sym then.same)
    (told_in_hand key me e c.args.monitor c.requires.holds c.requires.entry _ _ _ c.requires.touch.0 c.in-Some.at word at.0
    (told_new key me e c.args.monitor c.requires.holds c.requires.entry _ _ _ c.requires.touch.0 c.in-Some.at c.hide-old.result word at.0 (let few = at.1 in omega arith) at.2 old.agrees old.tells told.blank
    (λ some. told.same some ∙ c.makes_access.ensures) told.others)))
