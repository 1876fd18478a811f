use Rattle.std.proofs.Common.{◌≡◌, drop}
use Rattle.mls_state.specs.First.{with_triples}
use Rattle.mls_state.proofs.state.State.give_all.Given as goal

-- all but the matrix is as it was, and the matrix with the cells that are left is the matrix with all
abbrev pub invariant-loop-cell : goal.invariant-loop-cell
invariant-loop-cell g l = record {
  same : l.self ≡ record l.fn.self { matrix = l.self.matrix };
  cells : with_triples l.self.matrix (drop l.cell-index l.cells) ≡ with_triples l.fn.self.matrix l.cells;
}
