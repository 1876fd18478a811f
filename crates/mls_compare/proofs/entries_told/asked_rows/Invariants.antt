use Rattle.std.proofs.Common.{◌≡◌, take}
use Rattle.mls_compare.specs.Asked.{asked_rows}
use Rattle.mls_compare.proofs.entries_told.asked_rows.Given as goal

-- those so far that are asked for
abbrev pub invariant-loop-row : goal.invariant-loop-row
invariant-loop-row l = l.found.items ≡ asked_rows l.asked (take l.row-index l.rows)
