use Rattle.std.proofs.Common.{◌≡◌, false, take}
use Rattle.std.specs.List.{list_any}
use Rattle.mls_review.specs.Findings.{may_use}
use Rattle.mls_review.proofs.unused.is_used.Given as goal

-- none of the subjects that were looked at may use it
abbrev pub invariant-loop-s : goal.invariant-loop-s
invariant-loop-s g l = list_any (λ s. may_use l.state s l.o) (take l.s-index l.subjects) ≡ false
