use Rattle.std.proofs.Common.{◌≡◌}
use Rattle.mls_differences.specs.Counterparts.{counterparts}
use Rattle.mls_compare.proofs.carrier.subjects_by_name.Given as goal

-- the counterparts of the subjects below are found
abbrev pub invariant-loop-n : goal.invariant-loop-n
invariant-loop-n l = l.subjects.items ≡ counterparts l.first.subjects l.second.subjects l.n
