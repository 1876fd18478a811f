use Rattle.std.proofs.Common.{◌≤◌, length}
use Rattle.mls_snapshots.proofs.order.object_order.Given as goal

-- no more objects than turns
abbrev pub invariant-loop-n : goal.invariant-loop-n
invariant-loop-n l = length l.order.items ≤ l._n
