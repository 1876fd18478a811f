use Rattle.std.proofs.Common.{◌≡◌, ◌++◌, take}
use Rattle.mls_rows.specs.Rows.{bytes_of, form_of}
use Rattle.mls_futures_text.specs.Rows.{reasons_bytes}
use Rattle.mls_futures_text.proofs.written.with_reasons.Given as goal

-- the rows of the reasons so far stand behind the others
abbrev pub invariant-loop-why : goal.invariant-loop-why
invariant-loop-why l =
    (form_of l.output ≡ form_of l.fn.output)
    × (bytes_of l.output ≡ bytes_of l.fn.output ++ reasons_bytes l.names (form_of l.fn.output) (take l.why-index l.found))
