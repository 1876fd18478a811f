use Rattle.std.proofs.Common.{◌≡◌, ◌++◌, take}
use Rattle.std.specs.List.{flat_map}
use Rattle.mls_rows.specs.Rows.{bytes_of, form_of, row_bytes}
use Rattle.mls_differences.proofs.compared.with_rows.Given as goal

-- the rows so far are added, in the form of what was there
abbrev pub invariant-loop-row : goal.invariant-loop-row
invariant-loop-row g l =
    (form_of l.written ≡ form_of l.fn.output)
    × (bytes_of l.written ≡ bytes_of l.fn.output ++ flat_map (λ row. row_bytes (form_of l.fn.output)
    (g.R.Compared.line l.words.0.now l.words.1.now l.names.0.now l.names.1.now row)
    (g.R.Compared.members l.names.0.now l.names.1.now row)) (take l.row-index l.rows))
