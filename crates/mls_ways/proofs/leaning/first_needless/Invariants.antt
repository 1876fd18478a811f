use Rattle.std.specs.Prelude.{◌≡◌, ◌<◌, ℕ, false}
use Rattle.mls_ways.specs.Lean.{brings, without}
use Rattle.mls_ways.proofs.leaning.first_needless.Given as goal

-- none of those that were looked at can be left out
abbrev pub invariant-loop-n : goal.invariant-loop-n
invariant-loop-n l = (k : ℕ) → k < l.n → brings l.first l.access (without k l.requests) ≡ false
