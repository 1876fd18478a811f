use Rattle.mls_review.proofs.counting.kept.Given as goal

abbrev pub invariant-loop-c : goal.invariant-loop-c
invariant-loop-c l = Unit {0}
