use Rattle.std.proofs.Common.{◌≡◌, take}
use Rattle.std.specs.Prelude.{map}
use Rattle.mls_groups.proofs.grouping.keys_of.Given as goal

-- the keys of the members so far
abbrev pub invariant-loop-member : goal.invariant-loop-member
invariant-loop-member l = l.keys.items ≡ map (λ m. m.0) (take l.member-index l.members)
