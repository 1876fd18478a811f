use Rattle.std.proofs.Common.{◌≡◌, ◌++◌, take}
use Rattle.std.specs.List.{flat_map}
use Rattle.mls_differences.specs.Gets.{cell_rows}
use Rattle.mls_differences.proofs.gets.push_row.Given as goal

-- the rows of the objects that were looked at are there
abbrev pub invariant-loop-o : goal.invariant-loop-o
invariant-loop-o l = l.rows.items ≡ l.fn.rows.items ++ flat_map (cell_rows l.states.0.now l.states.1.now l.s) (take l.o-index l.objects)
