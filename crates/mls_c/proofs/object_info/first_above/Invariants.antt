use Rattle.std.proofs.Common.{◌≡◌, drop}
use Rattle.std.specs.Prelude.{nat_lt}
use Rattle.std.specs.List.{find}
use Rattle.mls_c.proofs.object_info.first_above.Given as goal

-- none so far is above
abbrev pub invariant-loop-object : goal.invariant-loop-object
invariant-loop-object l = find (λ c. nat_lt l.above c) (drop l.object-index l.objects) ≡ find (λ c. nat_lt l.above c) l.objects
