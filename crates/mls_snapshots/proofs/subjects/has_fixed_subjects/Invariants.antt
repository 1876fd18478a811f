use Rattle.std.proofs.Common.{ℕ, ◌<◌}
use Rattle.mls_snapshots.specs.Reading.{IsFixedSubject}
use Rattle.mls_snapshots.proofs.subjects.has_fixed_subjects.Given as goal

-- the subjects so far are the same
abbrev pub invariant-loop-s : goal.invariant-loop-s
invariant-loop-s l = (s : ℕ) → s < l.s → IsFixedSubject l.state l.other s
