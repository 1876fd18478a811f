use Rattle.std.proofs.Common.{◌≡◌}
use Rattle.mls_differences.specs.Counterparts.{shared}
use Rattle.mls_differences.proofs.shared.shared_objects.Given as goal

-- the objects below that both have are found
abbrev pub invariant-loop-n : goal.invariant-loop-n
invariant-loop-n l = l.found.items ≡ shared l.first.objects l.second.objects l.n
