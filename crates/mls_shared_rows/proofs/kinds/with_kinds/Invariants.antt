use Rattle.std.proofs.Common.{◌≡◌, ◌++◌, take}
use Rattle.std.specs.List.{flat_map}
use Rattle.mls_rows.specs.Rows.{bytes_of, form_of}
use Rattle.mls_rows.specs.Times.{rows_lent}
use Rattle.mls_shared_rows.specs.Kinds.{kind_bytes}
use Rattle.mls_shared_rows.proofs.kinds.with_kinds.Given as goal

-- the rows so far are added, in the form of what was there
abbrev pub invariant-loop-row : goal.invariant-loop-row
invariant-loop-row g l =
    (form_of l.written ≡ form_of l.fn.output)
    × (bytes_of l.written ≡ bytes_of l.fn.output ++ flat_map (λ row. kind_bytes (form_of l.fn.output) l.kind
    (g.R.Told.line l.names (rows_lent l.marks) row) (g.R.Told.members l.names (rows_lent l.marks) row)) (take l.row-index l.rows))
