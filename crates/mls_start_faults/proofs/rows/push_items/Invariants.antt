use Rattle.std.proofs.Common.{◌≡◌, ◌++◌, map, take}
use Rattle.serde_json.specs.View.{view}
use Rattle.mls_start_faults.specs.Each.{at_each}
use Rattle.mls_start_faults.specs.Places.{located_view, part_steps}
use Rattle.mls_start_faults.specs.Rows.{item_places}
use Rattle.mls_start_faults.proofs.rows.push_items.Given as goal

-- the lines of what was looked at are written
abbrev pub invariant-loop-k : goal.invariant-loop-k
invariant-loop-k l =
    map located_view l.found.items ≡ map located_view l.fn.found.items ++ at_each (item_places (part_steps l.part) l.member) 0 (map view (take l.k l.items))
