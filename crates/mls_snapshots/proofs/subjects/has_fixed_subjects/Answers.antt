use Rattle.std.proofs.Common.{sym, ap, ◌∙◌, arith}
use Rattle.std.specs.Prelude.{nat_lt}
use Rattle.mls_snapshots.proofs.SubjectTables.{subjects_fixed, fixed_at, known_below, counts_alike}
use Rattle.mls_snapshots.proofs.subjects.has_fixed_subjects.Goals as goal

pub returns-then-subject_count-count-clause-accepted : goal.returns-then-subject_count-count-clause-accepted
returns-then-subject_count-count-clause-accepted c fixed =
    absurd (c.if-subject_count-count.true (counts_alike c.args.state.now c.args.other.now c.subject_count-count.result c.subject_count.result
    c.subject_count-count.ensures.count c.subject_count.ensures.count fixed))

pub returns-then-not-is_fixed_subject-clause-accepted : goal.returns-then-not-is_fixed_subject-clause-accepted
returns-then-not-is_fixed_subject-clause-accepted c fixed =
    let count = c.subject_count-count.result in
    sym c.if-not-is_fixed_subject.true
    ∙ c.is_fixed_subject.ensures.accepted
    (known_below c.args.state.now count c.new.result c.loop-s.s c.subject_count-count.ensures.count c.new.ensures c.loop-s-test.true)
    (known_below c.args.other.now count c.new.result c.loop-s.s (λ s. c.subject_count.ensures.count s ∙ ap (nat_lt s) c.if-subject_count-count.false) c.new.ensures c.loop-s-test.true)
    (fixed_at c.args.state.now c.args.other.now c.new.result fixed)

pub returns-clause-fixed : goal.returns-clause-fixed
returns-clause-fixed c = λ _.
    subjects_fixed c.args.state.now c.args.other.now c.subject_count-count.result c.subject_count-count.ensures.count
    (λ s. c.subject_count.ensures.count s ∙ ap (nat_lt s) c.if-subject_count-count.false) c.agrees.ensures.whole c.agrees-2.ensures.whole
    (λ s below. c.loop-s.invariant s (omega arith))
