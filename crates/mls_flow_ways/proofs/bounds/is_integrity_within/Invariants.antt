use Rattle.std.proofs.Common.{◌≡◌, ℕ, ◌<◌, true, Some}
use Rattle.std.specs.FinMap as map
use Rattle.mls_labels.specs.Label.{Label, has_label}
use Rattle.mls_flow_ways.proofs.bounds.is_integrity_within.Given as goal

-- the integrity labels of the subjects so far are
abbrev pub invariant-loop-n : goal.invariant-loop-n
invariant-loop-n l = (s : ℕ) → s < l.n → (k : Label) → map.get l.state.subject_integrity s ≡ Some k → has_label l.state.integrity k ≡ true
