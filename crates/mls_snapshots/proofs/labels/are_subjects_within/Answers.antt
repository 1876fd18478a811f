use Rattle.std.proofs.Common.{sym, ◌∙◌, arith}
use Rattle.mls_snapshots.proofs.SubjectTables.{known_below}
use Rattle.mls_snapshots.proofs.Within.{subjects_within}
use Rattle.mls_snapshots.proofs.labels.are_subjects_within.Goals as goal

pub returns-then-not-is_subject_within-clause-accepted : goal.returns-then-not-is_subject_within-clause-accepted
returns-then-not-is_subject_within-clause-accepted c all =
    sym c.if-not-is_subject_within.true
    ∙ c.is_subject_within.ensures.accepted
    (known_below c.args.state.now c.subject_count-s-end.result c.new.result c.loop-s.s c.subject_count-s-end.ensures.count c.new.ensures c.loop-s-test.true)
    (all c.new.result)

pub returns-clause-within : goal.returns-clause-within
returns-clause-within c = λ _.
    subjects_within c.args.state.now c.subject_count-s-end.result c.subject_count-s-end.ensures.count c.agrees.ensures.whole
    (λ s below. c.loop-s.invariant s (omega arith))
