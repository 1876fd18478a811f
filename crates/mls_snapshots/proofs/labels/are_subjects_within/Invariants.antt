use Rattle.std.proofs.Common.{ℕ, ◌<◌}
use Rattle.mls_snapshots.specs.Reading.{IsSubjectWithin}
use Rattle.mls_snapshots.proofs.labels.are_subjects_within.Given as goal

-- the labels of the subjects so far are within the bounds
abbrev pub invariant-loop-s : goal.invariant-loop-s
invariant-loop-s l = (s : ℕ) → s < l.s → IsSubjectWithin l.state s
