use Rattle.std.proofs.Common.{◌≡◌, ◌++◌}
use Rattle.mls_rows.specs.Rows.{bytes_of, form_of}
use Rattle.mls_snapshots.specs.States.{word_of}
use Rattle.mls_state.specs.Tables.{triples_of}
use Rattle.mls_shared_rows.specs.StateRows.{cells_bytes}
use Rattle.mls_shared_rows.proofs.triples.with_row.Given as goal

-- the rows of the numbers so far are added, in the form of what was there
abbrev pub invariant-loop-o : goal.invariant-loop-o
invariant-loop-o l =
    (form_of l.written ≡ form_of l.fn.output)
    × (bytes_of l.written
    ≡ bytes_of l.fn.output ++ cells_bytes (form_of l.fn.output) (word_of l.table) l.names (triples_of l.table l.state) l.s l.o)
