use Rattle.std.proofs.Common.{◌≡◌, ◌++◌, map, take}
use Rattle.mls_remedies.specs.Gets.{release_step}
use Rattle.mls_remedies.proofs.owing.push_releases.Given as goal

-- the releases of the accesses so far are added
abbrev pub invariant-loop-access : goal.invariant-loop-access
invariant-loop-access l = l.steps.items ≡ l.fn.steps.items ++ map (release_step l.s) (take l.access-index l.accesses)
