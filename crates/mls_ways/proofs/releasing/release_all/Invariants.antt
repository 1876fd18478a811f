use Rattle.std.proofs.Common.{ℕ, ◌<◌}
use Rattle.mls_ways.specs.Releases.{IsFree, Releases}
use Rattle.mls_ways.proofs.releasing.release_all.Given as goal

-- what the subjects so far held is released
abbrev pub invariant-loop-n : goal.invariant-loop-n
invariant-loop-n l = record {
  releases : Releases l.fn.state l.state l.fn.script.items l.script.items;
  free : (s : ℕ) → s < l.n → (o : ℕ) → IsFree l.state s o;
}
