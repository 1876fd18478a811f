use Rattle.std.proofs.Common.{◌++◌, ◌∙◌, ap, ◌+◌, arith, map}
use Rattle.mls_start_faults.proofs.Each.{one_more}
use Rattle.mls_start_faults.specs.Starts.{object_labels, integrity_place}
use Rattle.mls_start_text.specs.LabelViews.{labels_view}
use Rattle.mls_start_faults.specs.Places.{located_view}
use Rattle.mls_start_faults.proofs.starts.push_integrity.Goals as goal

pub loop-n-preserved : goal.loop-n-preserved
loop-n-preserved c =
    one_more (integrity_place (object_labels (labels_view c.args.labels.now))) 1 c.deref-child-items.result.now c.loop-n.n c.child-item.result (c.loop-n.n + 1) _ _ _ c.loop-n-test.true (omega arith) c.loop-n.invariant (c.in_ok-push_untrustworthy.ensures ∙ ap (λ x. map located_view c.loop-n.found.items ++ integrity_place (object_labels (labels_view c.args.labels.now)) (c.loop-n.n + 1) x) c.child-item.is)
