use Rattle.std.proofs.Common.{◌≡◌, ◌+◌, drop}
use Rattle.mls_start.specs.StartFaults.{parents_before}
use Rattle.mls_start.proofs.start_builder.faults.are_parents_before.Given as goal

-- what is left decides as all does
abbrev pub invariant-loop-o : goal.invariant-loop-o
invariant-loop-o l = record {
  number : l.number ≡ l.o-index + 1;
  rest : parents_before l.number (drop l.o-index l.objects) ≡ parents_before 1 l.objects;
}
