use Rattle.std.proofs.Common.{ℕ, ◌<◌, IsSome}
use Rattle.std.specs.Prelude.{IsTrue}
use Rattle.mls_state.specs.State.{is_active}
use Rattle.mls_snapshots.specs.Orders.{place_in}
use Rattle.mls_snapshots.proofs.order.are_listed.Given as goal

-- the active objects so far have places
abbrev pub invariant-loop-n : goal.invariant-loop-n
invariant-loop-n l = (o : ℕ) → o < l.n → IsTrue (is_active l.state o) → IsSome (place_in l.order o)
