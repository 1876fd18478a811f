use Rattle.std.proofs.Common.{◌≡◌, take}
use Rattle.std.specs.List.{flat_map}
use Rattle.mls_explain.specs.Demands.{failing_at}
use Rattle.mls_explain.proofs.failing.failing_of_subject.Given as goal

-- the failing accesses to the objects that were looked at are found
abbrev pub invariant-loop-o : goal.invariant-loop-o
invariant-loop-o g l = l.found.items ≡ flat_map (failing_at l.demand l.state l.s) (take l.o-index l.o-items)
