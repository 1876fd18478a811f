use Rattle.std.proofs.Common.{◌≡◌, ◌++◌, map, take}
use Rattle.std.specs.List.{flat_map}
use Rattle.mls_review.specs.Granted.{change_view}
use Rattle.mls_review.specs.Powers.{power_over}
use Rattle.mls_review.proofs.power.Power.push_all_had.Given as goal

-- what was looked at is added
abbrev pub invariant-loop-o : goal.invariant-loop-o
invariant-loop-o g l = map change_view l.found.items ≡ map change_view l.fn.found.items ++ flat_map (power_over l.state l.s l.self) (take l.o-index l.objects)
