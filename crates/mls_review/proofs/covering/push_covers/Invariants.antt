use Rattle.std.proofs.Common.{◌≡◌, ◌++◌}
use Rattle.std.specs.List.{flat_map, range_with_len}
use Rattle.mls_review.specs.Covers.{cover_at}
use Rattle.mls_review.proofs.covering.push_covers.Given as goal

-- the pairs with the places that were looked at are added
abbrev pub invariant-loop-upper : goal.invariant-loop-upper
invariant-loop-upper l = l.found.items ≡ l.fn.found.items ++ flat_map (cover_at l.labels l.lower) (range_with_len 0 l.upper)
