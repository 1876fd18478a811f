use Rattle.std.proofs.Common.{◌≡◌}
use Rattle.std.specs.List.{flat_map, range_with_len}
use Rattle.mls_spans.specs.Trust.{trust_where}
use Rattle.mls_spans.proofs.trusting.trust_by.Given as goal

-- the uses of the subjects so far
abbrev pub invariant-loop-s : goal.invariant-loop-s
invariant-loop-s l = l.found.items ≡ flat_map (trust_where l.first l.granted) (range_with_len 0 l.s)
