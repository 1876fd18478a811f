use Rattle.std.proofs.Common.{◌≡◌, ◌++◌, map, take}
use Rattle.mls_review.specs.declared.finding.Finding.TheVariants as finding
use Rattle.mls_review.proofs.linting.push_all_idle.Given as goal

-- what was looked at is added
abbrev pub invariant-loop-s : goal.invariant-loop-s
invariant-loop-s l = l.found.items ≡ l.fn.found.items ++ map finding.Idle (take l.s-index l.subjects)
