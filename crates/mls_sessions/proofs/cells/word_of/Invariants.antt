use Rattle.std.proofs.Common.{◌/◌, ◌*◌}
use Rattle.mls_monitor.specs.Journal.{fold}
use Rattle.mls_sessions.proofs.Touching.{BitsBelow}
use Rattle.mls_sessions.proofs.cells.word_of.Given as goal

abbrev pub invariant-loop-k : goal.invariant-loop-k
invariant-loop-k l = BitsBelow (fold l.monitor.start l.monitor.entries) (l.fn.s / 8 * 8) l.o l.k l.word
