use Rattle.std.specs.Prelude.{◌≡◌, false, map, take}
use Rattle.mls_labels.specs.Names.{has_twice}
use Rattle.mls_labels.proofs.name_set.NameSet.from_names.Given as goal

-- the names so far are kept, and none of them stands twice
abbrev pub invariant-loop-name : goal.invariant-loop-name
invariant-loop-name g l = (l.kept ≡ map (λ name. name.now) (take l.name-index l.names)) × (has_twice l.kept ≡ false)
