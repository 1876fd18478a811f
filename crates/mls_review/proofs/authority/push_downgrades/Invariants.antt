use Rattle.std.proofs.Common.{◌≡◌, ◌++◌, map, take}
use Rattle.std.specs.List.{flat_map}
use Rattle.mls_review.specs.Granted.{change_view}
use Rattle.mls_review.specs.Powers.{downgrades_of}
use Rattle.mls_review.proofs.authority.push_downgrades.Given as goal

-- what was looked at is added
abbrev pub invariant-loop-o : goal.invariant-loop-o
invariant-loop-o g l = map change_view l.found.items ≡ map change_view l.fn.found.items ++ flat_map (downgrades_of l.state l.labels l.s) (take l.o-index l.objects)
