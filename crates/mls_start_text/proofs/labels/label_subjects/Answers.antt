use Rattle.std.proofs.Common.{refl, sym}
use Rattle.mls_start_text.specs.Labelling.{labelled_subject}
use Rattle.mls_start_text.specs.Views.{subject_view}
use Rattle.mls_start_text.proofs.Rows.{items_at_more, items_lack_at, count_made}
use Rattle.mls_start_text.proofs.labels.label_subjects.Goals as goal

pub returns-in_default-clause-fault : goal.returns-in_default-clause-fault
returns-in_default-clause-fault c =
    λ _. (refl, items_lack_at subject_view (labelled_subject c.args.schemes.now.security c.args.schemes.now.integrity) c.args.subjects.now c.loop-subject.subject-index _ c.loop-subject-test.true (sym c.in_default.ensures))

pub loop-subject-preserved : goal.loop-subject-preserved
loop-subject-preserved c =
    items_at_more subject_view (labelled_subject c.args.schemes.now.security c.args.schemes.now.integrity) c.args.subjects.now c.loop-subject.subject-index _ _ _ c.in-Some.row c.loop-subject-test.true (sym c.in-Some.ensures) c.in_ok-push.ensures.items c.loop-subject.invariant

pub returns-clause-count : goal.returns-clause-count
returns-clause-count c =
    count_made subject_view (labelled_subject c.args.schemes.now.security c.args.schemes.now.integrity) c.args.subjects.now c.loop-subject.subject-index c.loop-subject.rows.items c.loop-subject-test.false c.loop-subject.invariant
