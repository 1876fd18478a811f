use Rattle.std.proofs.Common.{◌≡◌, ◌++◌, take}
use Rattle.mls_rows.specs.Rows.{bytes_of, form_of}
use Rattle.mls_rows.specs.Times.{rows_lent}
use Rattle.mls_spans.specs.Trust.{trust_bytes}
use Rattle.mls_spans.proofs.usage_rows.with_trust.Given as goal

-- the rows of the uses so far are added, in the form of what was there
abbrev pub invariant-loop-used : goal.invariant-loop-used
invariant-loop-used l =
    (form_of l.written ≡ form_of l.fn.output)
    × (bytes_of l.written ≡ bytes_of l.fn.output ++ trust_bytes (form_of l.fn.output) l.names (rows_lent l.marks) (take l.used-index l.trust))
