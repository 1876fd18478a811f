use Rattle.std.proofs.Common.{◌≡◌, take}
use Rattle.std.specs.List.{flat_map}
use Rattle.mls_remedies.specs.Changes.{holder_steps}
use Rattle.mls_remedies.proofs.obstacles.holders_free.Given as goal

-- the releases of the subjects so far are added
abbrev pub invariant-loop-s : goal.invariant-loop-s
invariant-loop-s l = l.steps.items ≡ flat_map (holder_steps l.state l.o l.label) (take l.s-index l.s-items)
