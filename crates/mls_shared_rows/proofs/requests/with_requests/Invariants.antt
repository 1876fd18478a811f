use Rattle.std.proofs.Common.{◌≡◌, ◌++◌, take}
use Rattle.mls_rows.specs.Rows.{bytes_of, form_of}
use Rattle.mls_shared_rows.specs.Requests.{requests_bytes}
use Rattle.mls_shared_rows.proofs.requests.with_requests.Given as goal

-- the rows of the requests so far stand behind the others
abbrev pub invariant-loop-request : goal.invariant-loop-request
invariant-loop-request l =
    (form_of l.output ≡ form_of l.fn.output)
    × (bytes_of l.output ≡ bytes_of l.fn.output ++ requests_bytes l.names (form_of l.fn.output) (take l.request-index l.requests))
