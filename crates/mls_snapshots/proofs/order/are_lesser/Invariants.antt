use Rattle.std.proofs.Common.{◌≡◌, ℕ, ◌<◌, ◌≤◌, Some}
use Rattle.std.specs.Prelude.{slice_get}
use Rattle.mls_snapshots.proofs.order.are_lesser.Given as goal

-- the objects so far have lesser numbers
abbrev pub invariant-loop-j : goal.invariant-loop-j
invariant-loop-j l = (i q : ℕ) → l.from ≤ i → i < l.j → slice_get l.order i ≡ Some q → q < l.o
