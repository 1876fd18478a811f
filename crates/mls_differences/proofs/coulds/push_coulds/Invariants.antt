use Rattle.std.proofs.Common.{◌≡◌, ◌++◌, Bool, take}
use Rattle.mls_tables.specs.Triples.{Triple}
use Rattle.mls_could.specs.Outsets.{acts_of, Decides}
use Rattle.mls_differences.specs.Coulds.{all_coulds}
use Rattle.mls_differences.proofs.coulds.push_coulds.Given as goal

-- the rows of the subjects that were looked at are there
abbrev pub invariant-loop-s : goal.invariant-loop-s
invariant-loop-s l =
    (here there : Triple → Bool) → Decides here l.first.0.now (acts_of l.first.1.now) → Decides there l.second.0.now (acts_of l.second.1.now)
    → l.rows.items ≡ l.fn.rows.items ++ all_coulds here there (take l.s-index l.subjects) l.objects
