use Rattle.mls_state.specs.Audit.{EachBelow, fits_parent}
use Rattle.mls_state.proofs.audit.objects_fit.Given as goal

-- the objects that were looked at fit
abbrev pub invariant-loop-n : goal.invariant-loop-n
invariant-loop-n g l = EachBelow l.n (fits_parent l.state)
