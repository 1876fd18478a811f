use Rattle.std.proofs.Common.{◌≡◌, filter, take}
use Rattle.mls_review.specs.Powers.{may_take}
use Rattle.mls_review.proofs.relabeling.Relabeling.taken.Given as goal

-- of the labels that were looked at those that may be taken are found
abbrev pub invariant-loop-l : goal.invariant-loop-l
invariant-loop-l g l = l.found.items ≡ filter (may_take l.state l.s l.self) (take l.l-index l.labels)
