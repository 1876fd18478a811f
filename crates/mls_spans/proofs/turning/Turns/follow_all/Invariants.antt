use Rattle.std.proofs.Common.{◌≡◌, take}
use Rattle.mls_monitor.specs.Journal.{fold}
use Rattle.mls_spans.specs.Turning.{AreTurns}
use Rattle.mls_spans.proofs.turning.Turns.follow_all.Given as goal

-- the state and the turns of the entries so far
abbrev pub invariant-loop-entry : goal.invariant-loop-entry
invariant-loop-entry l = record {
  object : l.self.object ≡ l.initial.self.object;
  state : l.state ≡ fold l.initial.state (take l.entry-index l.entries);
  turns : AreTurns l.initial.state (take l.entry-index l.entries) l.self;
}
