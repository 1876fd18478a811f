use Rattle.std.proofs.Common.{◌≡◌, ℕ, ◌<◌, true, false, Some}
use Rattle.std.specs.FinMap as map
use Rattle.mls_state.specs.State.{State, is_active}
use Rattle.mls_snapshots.specs.Rebuilding.{AreObjectsOf, IsPart}
use Rattle.mls_snapshots.proofs.rebuilding.add_each.Given as goal

-- the state stays a part of the one whose objects these are, keeps its objects, and has each one so far whose parent it
-- had; it is as it was where none was added
abbrev pub invariant-loop-n : goal.invariant-loop-n
invariant-loop-n l = record {
  part : (v : State) → AreObjectsOf v l.objects → IsPart v l.fn.state → IsPart v l.state;
  kept : (q : ℕ) → is_active l.fn.state q ≡ true → is_active l.state q ≡ true;
  so_far : (v : State) → AreObjectsOf v l.objects → (o p : ℕ) → o < l.n → map.get v.parent o ≡ Some p → is_active l.fn.state p ≡ true → is_active l.state o ≡ true;
  same : l.is_any ≡ false → l.state ≡ l.fn.state;
}
