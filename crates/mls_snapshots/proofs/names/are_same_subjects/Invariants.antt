use Rattle.std.proofs.Common.{◌≡◌, ℕ, ◌<◌}
use Rattle.std.specs.Prelude.{slice_get}
use Rattle.mls_snapshots.proofs.names.are_same_subjects.Given as goal

-- the names so far are the same
abbrev pub invariant-loop-s : goal.invariant-loop-s
invariant-loop-s l = (j : ℕ) → j < l.s → slice_get l.b.subjects j ≡ slice_get l.a.subjects j
