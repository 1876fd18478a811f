use Rattle.std.proofs.Common.{◌≡◌, ◌++◌, Bool, take}
use Rattle.std.specs.List.{flat_map}
use Rattle.mls_tables.specs.Triples.{Triple}
use Rattle.mls_could.specs.Outsets.{acts_of, Decides}
use Rattle.mls_differences.specs.Coulds.{cell_coulds}
use Rattle.mls_differences.proofs.coulds.push_row.Given as goal

-- the rows of the objects that were looked at are there
abbrev pub invariant-loop-o : goal.invariant-loop-o
invariant-loop-o l =
    (here there : Triple → Bool) → Decides here l.first.0.now (acts_of l.first.1.now) → Decides there l.second.0.now (acts_of l.second.1.now)
    → l.rows.items ≡ l.fn.rows.items ++ flat_map (cell_coulds here there l.s) (take l.o-index l.objects)
