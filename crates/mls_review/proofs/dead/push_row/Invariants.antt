use Rattle.std.proofs.Common.{◌≡◌, ◌++◌, take}
use Rattle.std.specs.List.{flat_map}
use Rattle.mls_review.specs.Findings.{dead_at}
use Rattle.mls_review.proofs.dead.push_row.Given as goal

-- the dead permissions on the objects that were looked at are added
abbrev pub invariant-loop-o : goal.invariant-loop-o
invariant-loop-o g l = l.found.items ≡ l.fn.found.items ++ flat_map (dead_at l.state l.s) (take l.o-index l.objects)
