use Rattle.std.proofs.Common.{◌≡◌, length}
use Rattle.mls_futures.specs.Closure.{acts_in, IsGivable}
use Rattle.mls_futures.proofs.table.givable.Given as goal

-- the objects so far have their answers
abbrev pub invariant-loop-n : goal.invariant-loop-n
invariant-loop-n g l = (length l.found.items ≡ l.n) × IsGivable l.state (acts_in l.actors) l.found.items
