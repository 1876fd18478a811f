use Rattle.std.proofs.Common.{◌≡◌, map, take}
use Rattle.mls_start_faults.specs.NameFaults.{name_faults}
use Rattle.mls_start_faults.proofs.NameLists.{SeenAre}
use Rattle.mls_start_faults.proofs.name_fault.name_faults.Given as goal

-- the names so far were seen, and what is wrong with them is kept
abbrev pub invariant-loop-name : goal.invariant-loop-name
invariant-loop-name l =
    (l.faults.items ≡ name_faults (map (λ name. name.now) (take l.name-index l.names)))
    × SeenAre l.seen (map (λ name. name.now) (take l.name-index l.names))
