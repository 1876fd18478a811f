use Rattle.std.proofs.Common.{◌≡◌, drop}
use Rattle.mls_c.specs.SessionHandles.{are_numbered, handles_of}
use Rattle.mls_c.proofs.session_handles.are_numbered.Given as goal

-- what is left to look at decides
abbrev pub invariant-loop-n : goal.invariant-loop-n
invariant-loop-n l =
    are_numbered l.serial l.count l.n (handles_of (drop l.n l.sessions)) ≡ are_numbered l.serial l.count 0 (handles_of l.sessions)
