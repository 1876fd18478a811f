use Rattle.std.proofs.Common.{◌≡◌, vec_len}
use Rattle.mls_sessions.specs.Sessions.{Ascending}
use Rattle.mls_probes.proofs.offices.all_turns.Given as goal

abbrev pub invariant-loop-k : goal.invariant-loop-k
invariant-loop-k g l = Ascending l.office 0 l.sessions.items × (vec_len l.sessions ≡ vec_len l.initial.sessions)
