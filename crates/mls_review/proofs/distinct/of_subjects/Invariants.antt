use Rattle.std.proofs.Common.{◌≡◌, []}
use Rattle.std.specs.List.{fold, flat_map}
use Rattle.mls_review.specs.Distinct.{below, with_one, labels_of_subject}
use Rattle.mls_review.proofs.distinct.of_subjects.Given as goal

-- the labels of the subjects that were looked at are added
abbrev pub invariant-loop-n : goal.invariant-loop-n
invariant-loop-n g l = l.labels.items ≡ fold with_one [] (flat_map (labels_of_subject l.state) (below l.n))
