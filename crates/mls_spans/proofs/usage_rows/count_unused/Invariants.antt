use Rattle.std.proofs.Common.{◌≡◌, ◌≤◌, length, filter, take}
use Rattle.mls_spans.specs.Uses.{is_unused}
use Rattle.mls_spans.proofs.usage_rows.count_unused.Given as goal

-- the permissions so far that were never granted are counted
abbrev pub invariant-loop-usage : goal.invariant-loop-usage
invariant-loop-usage l = record {
  count : l.count ≡ length (filter is_unused (take l.usage-index l.usages));
  few : l.count ≤ l.usage-index;
}
