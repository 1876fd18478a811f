use Rattle.std.proofs.Common.{◌≡◌, ◌++◌, map, take}
use Rattle.mls_review.specs.declared.finding.Finding.TheVariants as finding
use Rattle.mls_review.proofs.linting.push_all_downflows.Given as goal

-- what was looked at is added
abbrev pub invariant-loop-f : goal.invariant-loop-f
invariant-loop-f l = l.found.items ≡ l.fn.found.items ++ map finding.Downflow (take l.f-index l.flows)
