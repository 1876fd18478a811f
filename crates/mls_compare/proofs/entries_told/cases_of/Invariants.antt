use Rattle.std.proofs.Common.{◌≡◌, map, take}
use Rattle.mls_compare.specs.Asked.{entry_case}
use Rattle.mls_compare.proofs.entries_told.cases_of.Given as goal

-- those so far
abbrev pub invariant-loop-row : goal.invariant-loop-row
invariant-loop-row l = l.cases.items ≡ map entry_case (take l.row-index l.rows)
