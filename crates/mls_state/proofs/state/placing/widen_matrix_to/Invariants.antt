use Rattle.std.proofs.Common.{◌≤◌}
use Rattle.mls_state.specs.First.{SameCells}
use Rattle.mls_state.proofs.state.placing.widen_matrix_to.Given as goal

abbrev pub invariant-loop-next : goal.invariant-loop-next
invariant-loop-next g l = record {
  wide : l.next ≤ l.matrix.columns;
  kept : SameCells l.initial.matrix l.matrix;
}
