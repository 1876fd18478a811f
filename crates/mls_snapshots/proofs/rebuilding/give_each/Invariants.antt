use Rattle.std.proofs.Common.{◌≡◌, All, IsTrue, drop}
use Rattle.mls_state.specs.First.{with_triples}
use Rattle.mls_state.specs.Properties.{is_known}
use Rattle.mls_snapshots.proofs.rebuilding.give_each.Given as goal

-- all but the matrix is as it was, and where each cell names what is there, the matrix with the cells that are left is
-- the matrix with all
abbrev pub invariant-loop-cell : goal.invariant-loop-cell
invariant-loop-cell l = record {
  same : l.state ≡ record l.fn.state { matrix = l.state.matrix };
  cells : All (λ t. IsTrue (is_known l.fn.state t)) l.cells
      → with_triples l.state.matrix (drop l.cell-index l.cells) ≡ with_triples l.fn.state.matrix l.cells;
}
