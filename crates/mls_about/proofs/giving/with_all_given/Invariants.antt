use Rattle.std.proofs.Common.{◌≡◌, ◌++◌, take}
use Rattle.mls_rows.specs.Rows.{bytes_of, form_of}
use Rattle.mls_rows.specs.Times.{rows_lent}
use Rattle.mls_about.specs.Entries.{given_bytes}
use Rattle.mls_about.proofs.giving.with_all_given.Given as goal

-- the rows of the entries so far are added, in the form of what was there
abbrev pub invariant-loop-entry : goal.invariant-loop-entry
invariant-loop-entry l =
    (form_of l.written ≡ form_of l.fn.output)
    × (bytes_of l.written
    ≡ bytes_of l.fn.output ++ given_bytes (form_of l.fn.output) l.names (rows_lent l.marks) l.s (take l.entry-index l.entries))
