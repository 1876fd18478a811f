use Rattle.std.proofs.Common.{◌≡◌, false, take}
use Rattle.std.specs.List.{list_any}
use Rattle.mls_review.specs.Findings.{may_use}
use Rattle.mls_review.proofs.unused.is_busy.Given as goal

-- it may use none of the objects that were looked at
abbrev pub invariant-loop-o : goal.invariant-loop-o
invariant-loop-o g l = list_any (may_use l.state l.s) (take l.o-index l.objects) ≡ false
