use Rattle.std.proofs.Common.{refl, sym}
use Rattle.serde_json.specs.View.{view}
use Rattle.mls_complete.specs.Short.{short_subject}
use Rattle.mls_start_text.specs.Views.{subject_view}
use Rattle.mls_start_text.proofs.Rows.{rows_more, items_lack}
use Rattle.mls_complete.proofs.rows.read_subjects.Goals as goal

pub returns-in_default-clause-fault : goal.returns-in_default-clause-fault
returns-in_default-clause-fault c = λ _. (refl, items_lack view (short_subject c.args.least.now) c.args.list.now c.loop-value.value-index c.value-item.result c.loop-value-test.true c.value-item.is (sym c.in_default.ensures))

pub loop-value-preserved : goal.loop-value-preserved
loop-value-preserved c =
    rows_more view (short_subject c.args.least.now) subject_view c.args.list.now c.loop-value.value-index c.value-item.result _ _ c.in-Some.row c.loop-value-test.true c.value-item.is (sym c.in-Some.ensures) c.in_ok-push.ensures.items c.loop-value.invariant
