use Rattle.std.proofs.Common.{◌≡◌, ◌++◌, map, take}
use Rattle.mls_review.specs.declared.finding.Finding.TheVariants as finding
use Rattle.mls_review.proofs.linting.push_all_unused.Given as goal

-- what was looked at is added
abbrev pub invariant-loop-o : goal.invariant-loop-o
invariant-loop-o l = l.found.items ≡ l.fn.found.items ++ map finding.Unused (take l.o-index l.objects)
