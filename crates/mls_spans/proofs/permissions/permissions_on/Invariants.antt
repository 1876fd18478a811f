use Rattle.std.proofs.Common.{◌≡◌}
use Rattle.std.specs.Prelude.{filter}
use Rattle.std.specs.List.{flat_map, range_with_len}
use Rattle.mls_spans.specs.Kept.{is_there}
use Rattle.mls_spans.specs.Permissions.{accesses_of}
use Rattle.mls_spans.proofs.permissions.permissions_on.Given as goal

-- the permissions of the subjects so far
abbrev pub invariant-loop-s : goal.invariant-loop-s
invariant-loop-s l =
    l.found.items ≡ filter (is_there l.first l.tally) (flat_map (accesses_of l.first l.asked l.o) (range_with_len 0 l.s))
