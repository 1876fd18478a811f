use Rattle.std.proofs.Common.{ℕ, sym, subst}
use Rattle.mls_monitor.specs.Journal.{fold}
use Rattle.mls_sessions.specs.Cells.{Tells}
use Rattle.mls_sessions.proofs.Handing.{for_refresh}
use Rattle.mls_sessions.proofs.publishing.refresh.Goals as goal

pub store_word-requires-clause-entries : goal.store_word-requires-clause-entries
store_word-requires-clause-entries c = let j = c.args.monitor in let word = c.word_of-word.result in
    for_refresh c.args.gate.now.key j c.args.seat.now.me c.in-Some.at word c.requires.holds
    (subst (λ (p : ℕ). Tells (fold j.start j.entries) p word) (sym c.in-Some.ensures.some.0) c.word_of-word.ensures.tells)
