use Rattle.std.proofs.Common.{◌≡◌, ◌≤◌, take}
use Rattle.mls_differences.specs.Counting.{denied_count}
use Rattle.mls_differences.proofs.counting.denied_count.Given as goal

-- those so far that are denied for the reason are counted
abbrev pub invariant-loop-case : goal.invariant-loop-case
invariant-loop-case l = record {
  count : l.count ≡ denied_count (take l.case-index l.cases) l.reason;
  few : l.count ≤ l.case-index;
}
