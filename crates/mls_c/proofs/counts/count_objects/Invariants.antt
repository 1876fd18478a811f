use Rattle.std.proofs.Common.{◌≡◌}
use Rattle.mls_c.specs.Infos.{active_count}
use Rattle.mls_c.proofs.counts.count_objects.Given as goal

-- those so far are counted
abbrev pub invariant-loop-n : goal.invariant-loop-n
invariant-loop-n l = l.count ≡ active_count l.state l.n
