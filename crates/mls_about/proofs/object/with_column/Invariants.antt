use Rattle.std.proofs.Common.{◌≡◌, ◌++◌}
use Rattle.mls_rows.specs.Rows.{bytes_of, form_of}
use Rattle.mls_about.specs.Objects.{column_bytes}
use Rattle.mls_about.proofs.object.with_column.Given as goal

-- the rows of the numbers so far are added, in the form of what was there
abbrev pub invariant-loop-s : goal.invariant-loop-s
invariant-loop-s l =
    (form_of l.written ≡ form_of l.fn.output)
    × (bytes_of l.written ≡ bytes_of l.fn.output ++ column_bytes (form_of l.fn.output) l.names l.state.accesses l.o l.s)
