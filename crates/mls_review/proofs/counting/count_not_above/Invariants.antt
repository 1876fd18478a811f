use Rattle.std.proofs.Common.{◌≡◌, ◌≤◌, Some, length, filter, take}
use Rattle.mls_review.specs.Flows.{is_not_above}
use Rattle.mls_review.proofs.counting.count_not_above.Given as goal

-- the objects that were looked at are counted
abbrev pub invariant-loop-b : goal.invariant-loop-b
invariant-loop-b g l = record {
  count : l.count ≡ length (filter (is_not_above l.state (Some l.label)) (take l.b-index l.altered));
  few : l.count ≤ l.b-index;
}
