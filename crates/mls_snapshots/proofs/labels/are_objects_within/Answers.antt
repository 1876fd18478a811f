use Rattle.std.proofs.Common.{sym, ◌∙◌, arith}
use Rattle.mls_snapshots.proofs.Within.{objects_within}
use Rattle.mls_snapshots.proofs.labels.are_objects_within.Goals as goal

pub returns-then-not-is_object_within-clause-accepted : goal.returns-then-not-is_object_within-clause-accepted
returns-then-not-is_object_within-clause-accepted c all =
    sym c.if-not-is_object_within.true ∙ c.is_object_within.ensures.accepted (all c.new.result)

pub returns-clause-within : goal.returns-clause-within
returns-clause-within c = λ _.
    objects_within c.args.state.now c.agrees.ensures.tree c.agrees.ensures.whole
    (λ o below. c.loop-o.invariant o (omega arith))
