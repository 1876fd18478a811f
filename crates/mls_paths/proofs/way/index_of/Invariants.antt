use Rattle.mls_paths.specs.Ways.{AreOthers}
use Rattle.mls_paths.proofs.way.index_of.Given as goal

-- none of those that were looked at
abbrev pub invariant-loop-at : goal.invariant-loop-at
invariant-loop-at l = AreOthers l.found l.at l.place
