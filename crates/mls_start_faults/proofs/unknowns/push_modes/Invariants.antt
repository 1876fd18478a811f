use Rattle.std.proofs.Common.{◌≡◌, ◌++◌, map, take}
use Rattle.mls_start_faults.specs.Each.{at_each}
use Rattle.mls_start_faults.specs.Unknowns.{mode_place}
use Rattle.mls_start_text.specs.Views.{text_view}
use Rattle.mls_start_faults.specs.Places.{located_view}
use Rattle.mls_start_faults.proofs.unknowns.push_modes.Given as goal

-- the lines of what was looked at are written
abbrev pub invariant-loop-k : goal.invariant-loop-k
invariant-loop-k l =
    map located_view l.found.items ≡ map located_view l.fn.found.items ++ at_each (mode_place l.list l.n) 0 (map text_view (take l.k l.words))
