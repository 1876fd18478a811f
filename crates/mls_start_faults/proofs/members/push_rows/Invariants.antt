use Rattle.std.proofs.Common.{◌≡◌, ◌++◌, map, take}
use Rattle.serde_json.specs.View.{view}
use Rattle.mls_start_faults.specs.Each.{at_each}
use Rattle.mls_start_faults.specs.Places.{located_view}
use Rattle.mls_start_faults.specs.Rows.{rows_at}
use Rattle.mls_start_faults.proofs.members.push_rows.Given as goal

-- the lines of what was looked at are written
abbrev pub invariant-loop-n : goal.invariant-loop-n
invariant-loop-n l =
    map located_view l.found.items ≡ map located_view l.fn.found.items ++ at_each (rows_at l.row l.list) 0 (map view (take l.n l.rows))
