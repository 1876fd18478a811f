use Rattle.std.proofs.Common.{◌≡◌, take}
use Rattle.mls_monitor.specs.Journal.{fold}
use Rattle.mls_spans.specs.Kept.{IsTally}
use Rattle.mls_spans.proofs.tally.Tally.follow_all.Given as goal

-- the state and the tally of the entries so far
abbrev pub invariant-loop-entry : goal.invariant-loop-entry
invariant-loop-entry l = record {
  state : l.state ≡ fold l.initial.state (take l.entry-index l.entries);
  tally : IsTally l.initial.state (take l.entry-index l.entries) l.self;
}
