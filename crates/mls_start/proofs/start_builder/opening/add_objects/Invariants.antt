use Rattle.std.proofs.Common.{◌≡◌, ℕ, ◌+◌, true, nat_lt, drop}
use Rattle.mls_state.specs.State.{is_active}
use Rattle.mls_start.specs.Growing.{with_rows}
use Rattle.mls_start.specs.StartFaults.{parents_before}
use Rattle.mls_start.proofs.start_builder.opening.add_objects.Given as goal

-- the state with the objects that are left is the state with all, and these go on as all did
abbrev pub invariant-loop-object : goal.invariant-loop-object
invariant-loop-object g l = record {
  rows : with_rows l.state (drop l.object-index l.objects) ≡ with_rows l.fn.state l.objects;
  next : l.state.next ≡ l.fn.state.next + l.object-index;
  active : (o : ℕ) → is_active l.state o ≡ nat_lt o l.state.next;
  parents : parents_before l.state.next (drop l.object-index l.objects) ≡ true;
}
