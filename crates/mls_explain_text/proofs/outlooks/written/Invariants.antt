use Rattle.std.proofs.Common.{◌≡◌, take}
use Rattle.mls_rows.specs.Rows.{bytes_of, form_of}
use Rattle.mls_explain_text.specs.WhoRows.{prospect_bytes}
use Rattle.mls_explain_text.proofs.outlooks.written.Given as goal

-- the rows so far are written, in the form that is asked for
abbrev pub invariant-loop-prospect : goal.invariant-loop-prospect
invariant-loop-prospect l =
    (form_of l.output ≡ l.fn.form) × (bytes_of l.output ≡ prospect_bytes l.names l.state l.fn.form (take l.prospect-index l.prospects))
