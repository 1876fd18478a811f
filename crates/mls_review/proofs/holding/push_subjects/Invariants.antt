use Rattle.std.proofs.Common.{◌≡◌, ◌++◌}
use Rattle.std.specs.List.{flat_map}
use Rattle.mls_review.specs.Distinct.{below}
use Rattle.mls_review.specs.Drawing.{subject_holders}
use Rattle.mls_review.proofs.holding.push_subjects.Given as goal

-- those with numbers that were looked at are added
abbrev pub invariant-loop-n : goal.invariant-loop-n
invariant-loop-n l = l.found.items ≡ l.fn.found.items ++ flat_map (subject_holders l.state l.label) (below l.n)
