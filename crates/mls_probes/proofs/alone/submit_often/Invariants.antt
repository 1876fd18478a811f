use Rattle.std.proofs.Common.{◌≡◌}
use Rattle.mls_sessions.specs.Sessions.{IsOf, number_of}
use Rattle.mls_probes.proofs.alone.submit_often.Given as goal

abbrev pub invariant-loop-k : goal.invariant-loop-k
invariant-loop-k g l = IsOf l.office l.session × (number_of l.session.view ≡ number_of l.initial.session.view)
