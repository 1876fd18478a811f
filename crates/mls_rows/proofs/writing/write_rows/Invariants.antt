use Rattle.std.proofs.Common.{◌≡◌, ◌++◌, take}
use Rattle.std.specs.List.{flat_map}
use Rattle.mls_rows.specs.Members.{object_of}
use Rattle.mls_rows.specs.Times.{rows_lent}
use Rattle.mls_rows.proofs.writing.write_rows.Given as goal

-- the objects of the rows so far are written, and nothing else
abbrev pub invariant-loop-row : goal.invariant-loop-row
invariant-loop-row g l =
    (l.writer.tokens ≡ l.fn.writer.tokens ++ flat_map (λ row. object_of (g.R.Told.members l.names (rows_lent l.marks) row)) (take l.row-index l.rows))
    × (l.writer.before ≡ l.fn.writer.before)
