use Rattle.mls_paths.specs.Hands.{Hands}
use Rattle.mls_paths.specs.Searching.{Expands}
use Rattle.mls_paths.proofs.searching.expand.Given as goal

-- the places of the numbers so far
abbrev pub invariant-loop-n : goal.invariant-loop-n
invariant-loop-n l = Expands (Hands l.state l.ground) l.fn.found.items l.found.items l.marked.items l.at l.from l.n
