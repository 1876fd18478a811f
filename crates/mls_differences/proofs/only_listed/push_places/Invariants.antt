use Rattle.std.proofs.Common.{◌≡◌, ◌++◌, map, string_bytes}
use Rattle.mls_differences.specs.Singles.{names_rows}
use Rattle.mls_differences.proofs.only_listed.push_places.Given as goal

-- the rows of the names so far are there
abbrev pub invariant-loop-n : goal.invariant-loop-n
invariant-loop-n l =
    l.rows.items ≡ l.fn.rows.items ++ names_rows l.side l.kind (map string_bytes l.names) (map string_bytes l.others) l.n
