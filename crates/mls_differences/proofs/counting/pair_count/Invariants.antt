use Rattle.std.proofs.Common.{◌≡◌, ◌≤◌, take}
use Rattle.mls_differences.specs.Counting.{pair_count}
use Rattle.mls_differences.proofs.counting.pair_count.Given as goal

-- those so far that have these replies are counted
abbrev pub invariant-loop-case : goal.invariant-loop-case
invariant-loop-case l = record {
  count : l.count ≡ pair_count (take l.case-index l.cases) l.first l.second;
  few : l.count ≤ l.case-index;
}
