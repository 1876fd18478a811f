use Rattle.std.proofs.Common.{not}
use Rattle.std.specs.FinSet as set
use Rattle.mls_could.proofs.Flags.{AreFlags}
use Rattle.mls_could.proofs.acting.flags.Given as goal

-- the flags of the subjects so far
abbrev pub invariant-loop-n : goal.invariant-loop-n
invariant-loop-n l = AreFlags (λ s. not (set.contains l.state.trusted s)) l.flags.items l.n
