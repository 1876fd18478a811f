use Rattle.std.proofs.Common.{◌≡◌, filter, take}
use Rattle.mls_review.specs.Findings.{is_unused_by}
use Rattle.mls_review.proofs.unused.unused_among.Given as goal

-- of the objects that were looked at those that are unused are found
abbrev pub invariant-loop-o : goal.invariant-loop-o
invariant-loop-o g l = l.found.items ≡ filter (is_unused_by l.state l.subjects) (take l.o-index l.objects)
