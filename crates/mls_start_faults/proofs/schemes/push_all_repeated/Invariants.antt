use Rattle.std.proofs.Common.{◌≡◌, ◌++◌, take, map}
use Rattle.mls_start_faults.specs.Each.{at_each}
use Rattle.mls_start_faults.specs.Naming.{repeated_place}
use Rattle.mls_start_faults.specs.Places.{located_view}
use Rattle.mls_start_faults.proofs.schemes.push_all_repeated.Given as goal

-- the lines of what was looked at are written
abbrev pub invariant-loop-k : goal.invariant-loop-k
invariant-loop-k l =
    map located_view l.found.items ≡ map located_view l.fn.found.items ++ at_each (repeated_place l.scheme l.list) 0 (take l.k l.fault-items)
