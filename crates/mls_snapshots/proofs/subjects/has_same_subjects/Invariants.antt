use Rattle.std.proofs.Common.{ℕ, ◌<◌}
use Rattle.mls_snapshots.specs.Renumbering.{IsSameSubject}
use Rattle.mls_snapshots.proofs.subjects.has_same_subjects.Given as goal

-- the subjects so far are the same
abbrev pub invariant-loop-s : goal.invariant-loop-s
invariant-loop-s l = (s : ℕ) → s < l.s → IsSameSubject l.state l.other s
