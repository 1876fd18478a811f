use Rattle.mls_state.specs.Audit.{EachBelow, ceiling_holds}
use Rattle.mls_state.proofs.audit.ceilings_hold.Given as goal

-- the ceilings of the subjects that were looked at hold
abbrev pub invariant-loop-n : goal.invariant-loop-n
invariant-loop-n g l = EachBelow l.n (ceiling_holds l.state)
