use Rattle.std.proofs.Common.{◌≡◌, take}
use Rattle.mls_monitor.specs.Journal.{fold}
use Rattle.mls_spans.specs.Spans.{spans_over}
use Rattle.mls_spans.specs.Sweeping.{AreAmong, AllStand}
use Rattle.mls_spans.proofs.following.Spans.follow_all.Given as goal

-- the state and the spans of the entries so far
abbrev pub invariant-loop-entry : goal.invariant-loop-entry
invariant-loop-entry l = record {
  state : l.state ≡ fold l.initial.state (take l.entry-index l.entries);
  spans : l.self.spans.items ≡ spans_over l.initial.state (take l.entry-index l.entries);
  places : AreAmong l.self.spans.items l.self.places.items;
  stand : AllStand l.state l.self.spans.items;
}
