use Rattle.std.proofs.Common.{◌≡◌, filter, take}
use Rattle.mls_review.specs.Findings.{is_idle_on}
use Rattle.mls_review.proofs.unused.idle_among.Given as goal

-- of the subjects that were looked at those that are idle are found
abbrev pub invariant-loop-s : goal.invariant-loop-s
invariant-loop-s g l = l.found.items ≡ filter (is_idle_on l.state l.objects) (take l.s-index l.subjects)
