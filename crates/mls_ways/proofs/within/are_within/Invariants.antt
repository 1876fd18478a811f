use Rattle.std.proofs.Common.{◌≡◌, ℕ, ◌<◌, true, Some}
use Rattle.std.specs.FinMap as map
use Rattle.mls_labels.specs.Label.{Label, has_label}
use Rattle.mls_ways.proofs.within.are_within.Given as goal

-- the labels of the objects so far are
abbrev pub invariant-loop-n : goal.invariant-loop-n
invariant-loop-n l = (o : ℕ) → o < l.n → (k : Label) → map.get l.state.object_label o ≡ Some k → has_label l.state.security k ≡ true
