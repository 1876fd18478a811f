use Rattle.std.proofs.Common.{◌≡◌, ℕ, ◌<◌, Some}
use Rattle.std.specs.Prelude.{slice_get}
use Rattle.mls_snapshots.specs.Orders.{IsPlaced}
use Rattle.mls_snapshots.proofs.order.are_placed.Given as goal

-- the objects so far are placed
abbrev pub invariant-loop-k : goal.invariant-loop-k
invariant-loop-k l = (j p : ℕ) → j < l.k → slice_get l.order j ≡ Some p → IsPlaced l.state l.order j p
