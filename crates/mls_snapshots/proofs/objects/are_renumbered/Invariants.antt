use Rattle.std.proofs.Common.{◌≡◌, ℕ, ◌<◌, Some}
use Rattle.std.specs.Prelude.{slice_get}
use Rattle.mls_snapshots.specs.Renumbering.{IsRenumbered}
use Rattle.mls_snapshots.proofs.objects.are_renumbered.Given as goal

-- the places so far have what their objects had
abbrev pub invariant-loop-k : goal.invariant-loop-k
invariant-loop-k l = (j p : ℕ) → j < l.k → slice_get l.order j ≡ Some p → IsRenumbered l.state l.other l.order j p
