use Rattle.std.proofs.Common.{◌≡◌, ◌≤◌, length, filter, take}
use Rattle.mls_about.specs.Counting.{is_asked}
use Rattle.mls_about.proofs.asked.count_asked.Given as goal

-- of the entries so far those are counted
abbrev pub invariant-loop-entry : goal.invariant-loop-entry
invariant-loop-entry l = record {
  count : l.count ≡ length (filter (is_asked l.s) (take l.entry-index l.entries));
  few : l.count ≤ l.entry-index;
}
