use Rattle.std.proofs.Common.{drop}
use Rattle.mls_spans.specs.Sweeping.{Sweeps}
use Rattle.mls_spans.proofs.sweeping.sweep.Given as goal

-- what is left to do is at the places that are left
abbrev pub invariant-loop-at : goal.invariant-loop-at
invariant-loop-at l = Sweeps l.state l.ending l.fn.spans.items l.spans.items (drop l.at-index l.places) l.kept.items
