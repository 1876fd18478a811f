use Rattle.std.proofs.Common.{◌≡◌, ◌++◌, take}
use Rattle.std.specs.List.{flat_map}
use Rattle.mls_differences.specs.Changes.{object_rows}
use Rattle.mls_differences.proofs.objects.push_objects.Given as goal

-- the rows of the objects that were looked at are there
abbrev pub invariant-loop-o : goal.invariant-loop-o
invariant-loop-o l =
    l.rows.items
    ≡ l.fn.rows.items ++ flat_map (object_rows l.names.0.now l.names.1.now l.states.0.now l.states.1.now) (take l.o-index l.objects)
