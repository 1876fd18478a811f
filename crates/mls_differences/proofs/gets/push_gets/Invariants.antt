use Rattle.std.proofs.Common.{◌≡◌, ◌++◌, take}
use Rattle.mls_differences.specs.Gets.{gets_rows}
use Rattle.mls_differences.proofs.gets.push_gets.Given as goal

-- the rows of the subjects that were looked at are there
abbrev pub invariant-loop-s : goal.invariant-loop-s
invariant-loop-s l = l.rows.items ≡ l.fn.rows.items ++ gets_rows l.states.0.now l.states.1.now (take l.s-index l.subjects) l.objects
