use Rattle.std.proofs.Common.{◌≡◌, false, take}
use Rattle.std.specs.List.{list_any}
use Rattle.mls_review.specs.Covers.{is_over}
use Rattle.mls_review.proofs.covering.is_over_some.Given as goal

-- it is over none of the labels that were looked at
abbrev pub invariant-loop-c : goal.invariant-loop-c
invariant-loop-c l = list_any (λ c. is_over l.b c) (take l.c-index l.labels) ≡ false
