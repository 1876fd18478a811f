use Rattle.std.proofs.Common.{◌≡◌}
use Rattle.std.specs.List.{fold, flat_map}
use Rattle.mls_review.specs.Distinct.{below, with_one, labels_of_object}
use Rattle.mls_review.proofs.distinct.add_objects.Given as goal

-- the labels of the objects that were looked at are added
abbrev pub invariant-loop-n : goal.invariant-loop-n
invariant-loop-n g l = l.labels.items ≡ fold with_one l.fn.labels.items (flat_map (labels_of_object l.state) (below l.n))
