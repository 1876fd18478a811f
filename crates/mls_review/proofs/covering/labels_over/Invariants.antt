use Rattle.std.proofs.Common.{◌≡◌, take, filter}
use Rattle.mls_review.specs.Covers.{is_over}
use Rattle.mls_review.proofs.covering.labels_over.Given as goal

-- of the labels that were looked at those over it are found
abbrev pub invariant-loop-c : goal.invariant-loop-c
invariant-loop-c l = l.found.items ≡ filter (λ c. is_over c l.a) (take l.c-index l.labels)
