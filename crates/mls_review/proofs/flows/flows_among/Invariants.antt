use Rattle.std.proofs.Common.{◌≡◌, take}
use Rattle.std.specs.List.{flat_map}
use Rattle.mls_review.specs.Flows.{flows_of}
use Rattle.mls_review.proofs.flows.flows_among.Given as goal

-- the flows of the subjects that were looked at are found
abbrev pub invariant-loop-s : goal.invariant-loop-s
invariant-loop-s g l = l.found.items ≡ flat_map (flows_of l.state) (take l.s-index l.subjects)
