use Rattle.std.proofs.Common.{◌≡◌}
use Rattle.std.specs.List.{flat_map, range_with_len}
use Rattle.mls_review.specs.Covers.{covers_of}
use Rattle.mls_review.proofs.covering.covering_pairs.Given as goal

-- the pairs whose lower places were looked at are found
abbrev pub invariant-loop-lower : goal.invariant-loop-lower
invariant-loop-lower l = l.found.items ≡ flat_map (covers_of l.labels) (range_with_len 0 l.lower)
