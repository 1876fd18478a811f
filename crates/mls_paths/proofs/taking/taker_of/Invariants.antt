use Rattle.std.proofs.Common.{ℕ, ◌<◌}
use Rattle.mls_paths.specs.Hands.{acts_of, CouldTake}
use Rattle.mls_paths.proofs.taking.taker_of.Given as goal

-- nobody below the objects that were looked at
abbrev pub invariant-loop-n : goal.invariant-loop-n
invariant-loop-n l = (maker parent : ℕ) → parent < l.n → CouldTake l.state (acts_of l.ground) l.t maker parent → ⊥
