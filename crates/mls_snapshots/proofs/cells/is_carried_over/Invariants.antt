use Rattle.std.proofs.Common.{◌≡◌, ℕ, ◌<◌, Some}
use Rattle.std.specs.Prelude.{slice_get}
use Rattle.std.specs.FinSet as set
use Rattle.mls_tables.specs.declared.mode.Mode.{Mode}
use Rattle.mls_state.specs.Tables.{triples_of}
use Rattle.mls_snapshots.proofs.cells.is_carried_over.Given as goal

-- the subjects so far have the modes that they had
abbrev pub invariant-loop-s : goal.invariant-loop-s
invariant-loop-s l =
    (s : ℕ) → s < l.s → (k o : ℕ) (x : Mode) → slice_get l.order k ≡ Some o
    → set.contains (triples_of l.table l.other) (s, k, x) ≡ set.contains (triples_of l.table l.state) (s, o, x)
