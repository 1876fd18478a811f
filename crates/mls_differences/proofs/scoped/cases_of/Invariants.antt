use Rattle.std.proofs.Common.{◌≡◌, map, take}
use Rattle.mls_differences.specs.Scoped.{get_case}
use Rattle.mls_differences.proofs.scoped.cases_of.Given as goal

-- those so far
abbrev pub invariant-loop-row : goal.invariant-loop-row
invariant-loop-row l = l.cases.items ≡ map get_case (take l.row-index l.gets)
