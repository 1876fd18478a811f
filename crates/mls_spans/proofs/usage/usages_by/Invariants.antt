use Rattle.std.proofs.Common.{◌≡◌}
use Rattle.std.specs.List.{flat_map, range_with_len}
use Rattle.mls_spans.specs.Kept.{usages_told}
use Rattle.mls_spans.specs.Uses.{accesses_by}
use Rattle.mls_spans.proofs.usage.usages_by.Given as goal

-- the usages of the subjects so far
abbrev pub invariant-loop-s : goal.invariant-loop-s
invariant-loop-s l = l.usages.items ≡ usages_told l.first l.tally (flat_map (accesses_by l.first) (range_with_len 0 l.s))
