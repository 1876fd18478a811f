use Rattle.std.proofs.Common.{◌≤◌}
use Rattle.mls_state.specs.First.{SameCells}
use Rattle.mls_state.proofs.state.placing.widen_accesses_to.Given as goal

abbrev pub invariant-loop-next : goal.invariant-loop-next
invariant-loop-next g l = record {
  wide : l.next ≤ l.accesses.columns;
  kept : SameCells l.initial.accesses l.accesses;
}
