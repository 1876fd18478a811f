use Rattle.std.proofs.Common.{◌≡◌, [], filter, take}
use Rattle.std.specs.FinMap as map
use Rattle.mls_review.specs.Flows.{is_not_above}
use Rattle.mls_review.proofs.flows.first_from.Given as goal

-- the labels of the objects that were looked at dominate it
abbrev pub invariant-loop-b : goal.invariant-loop-b
invariant-loop-b g l = filter (is_not_above l.state (map.get l.state.object_label l.a)) (take l.b-index l.altered) ≡ []
