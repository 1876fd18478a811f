use Rattle.std.proofs.Common.{◌≡◌, ◌++◌, take}
use Rattle.mls_rows.specs.Rows.{bytes_of, form_of}
use Rattle.mls_about.specs.Gets.{gets_bytes}
use Rattle.mls_about.proofs.getting.with_gets.Given as goal

-- the rows of the gets so far are added, in the form of what was there
abbrev pub invariant-loop-prospect : goal.invariant-loop-prospect
invariant-loop-prospect l =
    (form_of l.written ≡ form_of l.fn.output)
    × (bytes_of l.written ≡ bytes_of l.fn.output ++ gets_bytes (form_of l.fn.output) l.names l.state (take l.prospect-index l.found))
