use Rattle.std.proofs.Common.{◌≤◌, length}
use Rattle.mls_scripts.specs.Lines.{lines_of}
use Rattle.mls_scripts.specs.Halves.{next_of}
use Rattle.mls_scripts.proofs.HalfSteps.{GoneOver}
use Rattle.mls_scripts.proofs.looking.go_over.Given as goal

abbrev pub invariant-loop-fault : goal.invariant-loop-fault
invariant-loop-fault l = record {
  gone : GoneOver (next_of l.names l.vars.bound (lines_of l.bytes)) (next_of l.names l.vars.bound (lines_of l.rest)) l.initial.text.items l.text.items;
  left : length l.rest ≤ length l.bytes;
}

abbrev pub decreases-loop-fault : goal.decreases-loop-fault
decreases-loop-fault l = length l.rest
