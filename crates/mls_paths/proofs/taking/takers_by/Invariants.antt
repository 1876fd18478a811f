use Rattle.std.proofs.Common.{◌≡◌, length}
use Rattle.mls_paths.specs.Hands.{acts_of, AreTaken}
use Rattle.mls_paths.proofs.taking.takers_by.Given as goal

-- those of the subjects so far
abbrev pub invariant-loop-n : goal.invariant-loop-n
invariant-loop-n l = AreTaken l.state (acts_of l.ground) l.takers.items l.n
