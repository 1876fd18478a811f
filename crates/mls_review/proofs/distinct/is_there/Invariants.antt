use Rattle.std.proofs.Common.{◌≡◌, false, take}
use Rattle.std.specs.List.{list_any}
use Rattle.mls_labels.specs.Same.{same_label}
use Rattle.mls_review.proofs.distinct.is_there.Given as goal

-- none of the labels that were looked at is it
abbrev pub invariant-loop-m : goal.invariant-loop-m
invariant-loop-m l = list_any (λ m. same_label m l.l) (take l.m-index l.labels) ≡ false
