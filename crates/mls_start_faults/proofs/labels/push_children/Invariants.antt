use Rattle.std.proofs.Common.{◌≡◌, ◌++◌, map, take}
use Rattle.mls_start_faults.specs.Each.{at_each}
use Rattle.mls_start_faults.specs.Labels.{child_places}
use Rattle.mls_start_text.specs.Views.{child_view}
use Rattle.mls_start_faults.specs.Places.{located_view}
use Rattle.mls_start_faults.proofs.labels.push_children.Given as goal

-- the lines of what was looked at are written
abbrev pub invariant-loop-n : goal.invariant-loop-n
invariant-loop-n l =
    map located_view l.found.items ≡ map located_view l.fn.found.items ++ at_each (child_places l.schemes.security l.schemes.integrity) 1 (map child_view (take l.n l.children))
