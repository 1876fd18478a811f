use Rattle.std.proofs.Common.{◌≡◌, ◌++◌, take, drop, map}
use Rattle.mls_c.specs.SessionHandles.{handles_of, sessions_of, shut}
use Rattle.mls_c.proofs.office_closing.take_all_back.Given as goal

-- the sessions so far are at home, and their handles are shut
abbrev pub invariant-loop-n : goal.invariant-loop-n
invariant-loop-n l =
    (l.seats.office ≡ l.initial.seats.office)
    × (l.seats.home ≡ sessions_of (take l.n (handles_of l.initial.sessions)))
    × (handles_of l.sessions ≡ map shut (take l.n (handles_of l.initial.sessions)) ++ drop l.n (handles_of l.initial.sessions))
