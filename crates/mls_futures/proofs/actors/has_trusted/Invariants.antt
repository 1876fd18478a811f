use Rattle.std.proofs.Common.{◌≡◌, ℕ, ◌<◌, false, ◌&&◌}
use Rattle.std.specs.FinSet as set
use Rattle.mls_futures.specs.Closure.{acts_in}
use Rattle.mls_futures.proofs.actors.has_trusted.Given as goal

-- none of the subjects that were looked at acts and is trusted
abbrev pub invariant-loop-n : goal.invariant-loop-n
invariant-loop-n g l = (a : ℕ) → a < l.n → (acts_in l.actors a && set.contains l.state.trusted a) ≡ false
