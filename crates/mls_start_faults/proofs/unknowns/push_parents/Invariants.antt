use Rattle.std.proofs.Common.{◌≡◌, ◌++◌, map, take}
use Rattle.mls_start_faults.specs.Each.{at_each}
use Rattle.mls_start_faults.specs.Unknowns.{parent_place}
use Rattle.mls_start_text.specs.Views.{child_view}
use Rattle.mls_start_faults.specs.Places.{located_view}
use Rattle.mls_start_faults.proofs.unknowns.push_parents.Given as goal

-- the lines of what was looked at are written
abbrev pub invariant-loop-n : goal.invariant-loop-n
invariant-loop-n l =
    map located_view l.found.items ≡ map located_view l.fn.found.items ++ at_each (parent_place l.objects) 1 (map child_view (take l.n l.children))
