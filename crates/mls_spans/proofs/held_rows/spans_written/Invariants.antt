use Rattle.std.proofs.Common.{◌≡◌, take}
use Rattle.mls_rows.specs.Rows.{bytes_of, form_of}
use Rattle.mls_rows.specs.Times.{rows_lent}
use Rattle.mls_spans.specs.Lines.{spans_bytes}
use Rattle.mls_spans.proofs.held_rows.spans_written.Given as goal

-- the spans so far are written, in the form that is asked for
abbrev pub invariant-loop-span : goal.invariant-loop-span
invariant-loop-span l =
    (form_of l.output ≡ l.fn.form)
    × (bytes_of l.output ≡ spans_bytes l.fn.form l.names (rows_lent l.marks) l.choice (take l.span-index l.spans))
