use Rattle.std.proofs.Common.{◌≡◌, ◌≤◌, ◌*◌, All, length, take}
use Rattle.std.specs.List.{flat_map, slice_get}
use Rattle.mls_review.specs.Flows.{pairs_from, count_not_above}
use Rattle.mls_review.proofs.flows.pairs_among.Given as goal

-- the pairs of the objects that were looked at are counted, and the first of them is known
abbrev pub invariant-loop-a : goal.invariant-loop-a
invariant-loop-a g l = record {
  count : l.found.count ≡ length (flat_map (pairs_from l.state l.altered) (take l.a-index l.observed));
  first : l.found.first ≡ slice_get (flat_map (pairs_from l.state l.altered) (take l.a-index l.observed)) 0;
  each : All (λ c. c.below ≡ count_not_above l.state l.altered c.label) l.counts.items;
  few : l.found.count ≤ l.a-index * 4096;
}
