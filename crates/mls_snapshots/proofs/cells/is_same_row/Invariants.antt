use Rattle.std.proofs.Common.{◌≡◌, ℕ, ◌<◌, Some}
use Rattle.std.specs.Prelude.{slice_get}
use Rattle.std.specs.FinSet as set
use Rattle.mls_tables.specs.declared.mode.Mode.{Mode}
use Rattle.mls_state.specs.Tables.{triples_of}
use Rattle.mls_snapshots.proofs.cells.is_same_row.Given as goal

-- the places so far have the modes of their objects
abbrev pub invariant-loop-k : goal.invariant-loop-k
invariant-loop-k l =
    (j p : ℕ) → j < l.k → slice_get l.order j ≡ Some p → (x : Mode)
    → set.contains (triples_of l.table l.other) (l.s, j, x) ≡ set.contains (triples_of l.table l.state) (l.s, p, x)
