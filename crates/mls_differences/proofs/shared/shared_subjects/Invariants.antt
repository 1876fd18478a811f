use Rattle.std.proofs.Common.{◌≡◌}
use Rattle.mls_differences.specs.Counterparts.{shared}
use Rattle.mls_differences.proofs.shared.shared_subjects.Given as goal

-- the subjects below that both have are found
abbrev pub invariant-loop-n : goal.invariant-loop-n
invariant-loop-n l = l.found.items ≡ shared l.first.subjects l.second.subjects l.n
