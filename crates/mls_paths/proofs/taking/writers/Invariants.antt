use Rattle.mls_paths.specs.Hands.{acts_of, AreWriters}
use Rattle.mls_paths.proofs.taking.writers.Given as goal

-- those of the objects so far
abbrev pub invariant-loop-n : goal.invariant-loop-n
invariant-loop-n l = AreWriters l.state (acts_of l.ground) l.writers.items l.n
