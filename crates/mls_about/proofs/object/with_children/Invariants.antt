use Rattle.std.proofs.Common.{◌≡◌, ◌++◌}
use Rattle.mls_rows.specs.Rows.{bytes_of, form_of}
use Rattle.mls_about.specs.Objects.{children_bytes}
use Rattle.mls_about.proofs.object.with_children.Given as goal

-- the rows of the numbers so far are added, in the form of what was there
abbrev pub invariant-loop-child : goal.invariant-loop-child
invariant-loop-child l =
    (form_of l.written ≡ form_of l.fn.output)
    × (bytes_of l.written ≡ bytes_of l.fn.output ++ children_bytes (form_of l.fn.output) l.names l.state l.o l.child)
