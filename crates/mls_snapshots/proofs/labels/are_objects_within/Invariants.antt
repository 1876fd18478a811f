use Rattle.std.proofs.Common.{ℕ, ◌<◌}
use Rattle.std.specs.Prelude.{IsTrue}
use Rattle.mls_state.specs.State.{is_active}
use Rattle.mls_snapshots.specs.Reading.{IsObjectWithin}
use Rattle.mls_snapshots.proofs.labels.are_objects_within.Given as goal

-- the labels of the objects so far are within the bounds
abbrev pub invariant-loop-o : goal.invariant-loop-o
invariant-loop-o l = (o : ℕ) → o < l.o → IsTrue (is_active l.state o) → IsObjectWithin l.state o
