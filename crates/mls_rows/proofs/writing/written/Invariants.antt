use Rattle.std.proofs.Common.{◌≡◌, take}
use Rattle.std.specs.List.{flat_map}
use Rattle.mls_rows.specs.Rows.{bytes_of, form_of, row_bytes}
use Rattle.mls_rows.specs.Times.{rows_lent}
use Rattle.mls_rows.proofs.writing.written.Given as goal

-- the rows so far are written, in the form that is asked for
abbrev pub invariant-loop-row : goal.invariant-loop-row
invariant-loop-row g l =
    (form_of l.output ≡ l.fn.form)
    × (bytes_of l.output ≡ flat_map (λ row. row_bytes l.fn.form (g.R.Told.line l.names (rows_lent l.marks) row) (g.R.Told.members l.names (rows_lent l.marks) row)) (take l.row-index l.rows))
