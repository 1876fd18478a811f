use Rattle.std.proofs.Common.{◌≡◌, ◌++◌, map, take}
use Rattle.std.specs.List.{flat_map}
use Rattle.mls_review.specs.Granted.{change_view}
use Rattle.mls_review.specs.Powers.{granted_of}
use Rattle.mls_review.proofs.authority.push_subjects.Given as goal

-- what was looked at is added
abbrev pub invariant-loop-s : goal.invariant-loop-s
invariant-loop-s g l = map change_view l.found.items ≡ map change_view l.fn.found.items ++ flat_map (granted_of l.state l.downgrades) (take l.s-index l.subjects)
