use Rattle.std.proofs.Common.{◌≡◌, ◌++◌, take}
use Rattle.mls_rows.specs.Rows.{bytes_of, form_of}
use Rattle.mls_about.specs.Permissions.{permit_bytes}
use Rattle.mls_about.proofs.permit_row.with_permissions.Given as goal

-- the rows of the permissions so far are added, in the form of what was there
abbrev pub invariant-loop-permission : goal.invariant-loop-permission
invariant-loop-permission l =
    (form_of l.written ≡ form_of l.fn.output)
    × (bytes_of l.written ≡ bytes_of l.fn.output ++ permit_bytes (form_of l.fn.output) l.names l.state (take l.permission-index l.found))
