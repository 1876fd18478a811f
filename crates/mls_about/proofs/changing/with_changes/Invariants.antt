use Rattle.std.proofs.Common.{◌≡◌, ◌++◌, drop}
use Rattle.mls_rows.specs.Rows.{bytes_of, form_of}
use Rattle.mls_rows.specs.Times.{rows_lent}
use Rattle.mls_about.specs.Entries.{changed_bytes}
use Rattle.mls_about.proofs.changing.with_changes.Given as goal

-- with the rows of the entries that are left it is all of them, in the form of what was there
abbrev pub invariant-loop-entry : goal.invariant-loop-entry
invariant-loop-entry l =
    (form_of l.written ≡ form_of l.fn.output)
    × (bytes_of l.written ++ changed_bytes (form_of l.fn.output) l.names (rows_lent l.marks) l.state l.o (drop l.entry-index l.entries)
    ≡ bytes_of l.fn.output ++ changed_bytes (form_of l.fn.output) l.names (rows_lent l.marks) l.initial.state l.o l.entries)
