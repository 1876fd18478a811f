use Rattle.std.proofs.Common.{◌≡◌, take}
use Rattle.std.specs.List.{sum_by}
use Rattle.mls_page.specs.Gets.{capped}
use Rattle.mls_page.proofs.cutting.sum_of.Given as goal

-- that of those so far
abbrev pub invariant-loop-row : goal.invariant-loop-row
invariant-loop-row g l = l.sum ≡ capped (sum_by g.C.Column.number_of (take l.row-index l.rows))
