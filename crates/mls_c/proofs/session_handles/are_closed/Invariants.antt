use Rattle.std.proofs.Common.{◌≡◌, drop}
use Rattle.mls_c.specs.SessionHandles.{are_closed, handles_of}
use Rattle.mls_c.proofs.session_handles.are_closed.Given as goal

-- what is left to look at decides
abbrev pub invariant-loop-n : goal.invariant-loop-n
invariant-loop-n l = are_closed (handles_of (drop l.n l.sessions)) ≡ are_closed (handles_of l.sessions)
