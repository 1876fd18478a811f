use Rattle.std.proofs.Common.{◌≡◌, ◌++◌, map, take}
use Rattle.mls_review.specs.declared.finding.Finding.TheVariants as finding
use Rattle.mls_review.proofs.linting.push_all_dead.Given as goal

-- what was looked at is added
abbrev pub invariant-loop-d : goal.invariant-loop-d
invariant-loop-d l = l.found.items ≡ l.fn.found.items ++ map finding.Dead (take l.d-index l.dead)
