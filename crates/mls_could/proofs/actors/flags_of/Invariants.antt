use Rattle.std.proofs.Common.{map}
use Rattle.mls_could.specs.Actors.{is_one}
use Rattle.mls_could.proofs.Flags.{AreFlags}
use Rattle.mls_could.proofs.actors.flags_of.Given as goal

-- the flags of the subjects so far
abbrev pub invariant-loop-n : goal.invariant-loop-n
invariant-loop-n l = AreFlags (is_one l.names l.state l.choice (map (λ word. word.now) l.words)) l.flags.items l.n
