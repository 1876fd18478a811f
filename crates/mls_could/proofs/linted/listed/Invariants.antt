use Rattle.std.proofs.Common.{◌≡◌, take}
use Rattle.std.specs.List.{flat_map}
use Rattle.mls_rows.specs.Rows.{bytes_of, form_of, row_bytes}
use Rattle.mls_could.specs.Brought.{brought_line, brought_members}
use Rattle.mls_could.proofs.linted.listed.Given as goal

-- the rows of the accesses so far are written
abbrev pub invariant-loop-access : goal.invariant-loop-access
invariant-loop-access l =
    (form_of l.output ≡ l.fn.form)
    × (bytes_of l.output ≡ flat_map (λ t. row_bytes l.fn.form (brought_line l.names t) (brought_members l.names t)) (take l.access-index l.found))
