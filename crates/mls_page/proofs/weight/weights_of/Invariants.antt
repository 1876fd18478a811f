use Rattle.std.proofs.Common.{◌≡◌, map, take}
use Rattle.mls_page.proofs.weight.weights_of.Given as goal

-- those so far
abbrev pub invariant-loop-row : goal.invariant-loop-row
invariant-loop-row g l = l.weights.items ≡ map g.R.Weighed.weight_of (take l.row-index l.rows)
