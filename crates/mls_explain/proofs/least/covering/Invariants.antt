use Rattle.mls_explain.proofs.Covering.{Joined}
use Rattle.mls_explain.proofs.least.covering.Given as goal

-- the level is the join of that from which it began and of the labels of those objects looked at that are observed
abbrev pub invariant-loop-o : goal.invariant-loop-o
invariant-loop-o g l = Joined l.state l.s l.fn.from l.o-items l.o-index l.level
