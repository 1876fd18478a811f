use Rattle.std.proofs.Common.{◌≡◌, ◌≤◌, length}
use Rattle.mls_scripts.specs.Lines.{lines_of}
use Rattle.mls_scripts.specs.Halves.{next_of}
use Rattle.mls_scripts.proofs.looking.look.Given as goal

abbrev pub invariant-loop-line : goal.invariant-loop-line
invariant-loop-line l = record {
  next : next_of l.names l.vars.bound (lines_of l.bytes) ≡ next_of l.names l.vars.bound (lines_of l.rest);
  left : length l.rest ≤ length l.bytes;
}

abbrev pub decreases-loop-line : goal.decreases-loop-line
decreases-loop-line l = length l.rest
