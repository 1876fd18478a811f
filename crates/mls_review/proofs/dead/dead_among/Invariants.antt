use Rattle.std.proofs.Common.{◌≡◌, take}
use Rattle.std.specs.List.{flat_map}
use Rattle.mls_review.specs.Findings.{dead_at}
use Rattle.mls_review.proofs.dead.dead_among.Given as goal

-- the dead permissions of the subjects that were looked at are found
abbrev pub invariant-loop-s : goal.invariant-loop-s
invariant-loop-s g l = l.found.items ≡ flat_map (λ s. flat_map (dead_at l.state s) l.objects) (take l.s-index l.subjects)
