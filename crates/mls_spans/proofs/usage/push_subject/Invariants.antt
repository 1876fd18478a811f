use Rattle.std.proofs.Common.{◌≡◌, ◌++◌}
use Rattle.std.specs.List.{flat_map, range_with_len}
use Rattle.mls_spans.specs.Kept.{usages_told}
use Rattle.mls_spans.specs.Uses.{accesses_on}
use Rattle.mls_spans.proofs.usage.push_subject.Given as goal

-- the usages of the objects so far
abbrev pub invariant-loop-o : goal.invariant-loop-o
invariant-loop-o l =
    l.usages.items ≡ l.fn.usages.items ++ usages_told l.first l.tally (flat_map (accesses_on l.s) (range_with_len 0 l.o))
