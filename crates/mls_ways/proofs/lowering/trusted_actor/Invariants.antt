use Rattle.std.proofs.Common.{◌≡◌, ℕ, ◌<◌}
use Rattle.mls_futures.specs.Closure.{acts_in}
use Rattle.mls_ways.specs.Ways.{IsTrustedActor}
use Rattle.mls_ways.proofs.lowering.trusted_actor.Given as goal

-- none of the subjects that were looked at acts and is trusted
abbrev pub invariant-loop-n : goal.invariant-loop-n
invariant-loop-n l = (a : ℕ) → a < l.n → IsTrustedActor l.state (acts_in l.actors) a → ⊥
