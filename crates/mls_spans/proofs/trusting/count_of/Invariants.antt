use Rattle.std.proofs.Common.{◌≡◌, ◌≤◌, length, filter, take}
use Rattle.mls_spans.specs.Trust.{is_asked_by}
use Rattle.mls_spans.proofs.trusting.count_of.Given as goal

-- the entries so far that the subject asked are counted
abbrev pub invariant-loop-entry : goal.invariant-loop-entry
invariant-loop-entry l = record {
  count : l.count ≡ length (filter (is_asked_by l.s) (take l.entry-index l.entries));
  few : l.count ≤ l.entry-index;
}
