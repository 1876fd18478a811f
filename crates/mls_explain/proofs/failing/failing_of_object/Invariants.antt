use Rattle.std.proofs.Common.{◌≡◌, take}
use Rattle.std.specs.List.{flat_map}
use Rattle.mls_explain.specs.Demands.{failing_at}
use Rattle.mls_explain.proofs.failing.failing_of_object.Given as goal

-- the failing accesses of the subjects that were looked at are found
abbrev pub invariant-loop-s : goal.invariant-loop-s
invariant-loop-s g l = l.found.items ≡ flat_map (λ s. failing_at l.demand l.state s l.o) (take l.s-index l.s-items)
