use Rattle.std.proofs.Common.{◌≡◌, filter, take}
use Rattle.mls_review.specs.Flows.{has_live}
use Rattle.mls_review.proofs.flows.permitted.Given as goal

-- those of the objects that were looked at are found
abbrev pub invariant-loop-o : goal.invariant-loop-o
invariant-loop-o g l = l.found.items ≡ filter (has_live l.state l.s l.x) (take l.o-index l.objects)
