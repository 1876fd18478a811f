use Rattle.std.proofs.Common.{◌≡◌, ℕ, true}
use Rattle.mls_state.specs.State.{State, is_active}
use Rattle.mls_tree.specs.Tree.{reaches_within}
use Rattle.mls_snapshots.specs.Rebuilding.{AreObjectsOf, IsPart}
use Rattle.mls_snapshots.proofs.rebuilding.place_all.Given as goal

-- the state stays a part of the one whose objects these are, and has those that reach the root within so many steps
abbrev pub invariant-loop-n : goal.invariant-loop-n
invariant-loop-n l = record {
  part : (v : State) → AreObjectsOf v l.objects → IsPart v l.fn.state → IsPart v l.state;
  steps : (v : State) → AreObjectsOf v l.objects → IsPart v l.fn.state → (o : ℕ) → reaches_within v.parent l._n o 0 ≡ true → is_active l.state o ≡ true;
}
