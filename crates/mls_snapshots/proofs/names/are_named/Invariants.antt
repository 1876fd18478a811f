use Rattle.std.proofs.Common.{◌≡◌, ℕ, ◌<◌, Some}
use Rattle.std.specs.Prelude.{slice_get}
use Rattle.mls_snapshots.specs.Renaming.{IsNamed}
use Rattle.mls_snapshots.proofs.names.are_named.Given as goal

-- the objects so far have the names that they are to have
abbrev pub invariant-loop-k : goal.invariant-loop-k
invariant-loop-k l = (j p : ℕ) → j < l.k → slice_get l.order j ≡ Some p → IsNamed l.old.objects l.new.objects j p
