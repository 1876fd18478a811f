use Rattle.std.proofs.Common.{◌≡◌, take}
use Rattle.std.specs.Prelude.{map}
use Rattle.mls_groups.proofs.grouping.numbered.Given as goal

-- the keys so far
abbrev pub invariant-loop-key : goal.invariant-loop-key
invariant-loop-key l = map (λ m. m.0) l.members.items ≡ take l.key-index l.keys
