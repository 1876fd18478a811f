use Rattle.std.proofs.Common.{map, take, refl, sym}
use Rattle.mls_start_text.specs.Labelling.{labelled_child}
use Rattle.mls_start_text.specs.Views.{child_view}
use Rattle.mls_start_text.proofs.Rows.{items_at_more, items_lack_at, count_made}
use Rattle.mls_start_text.proofs.Below.{parents_below}
use Rattle.mls_start_text.proofs.labels.label_children.Goals as goal

pub returns-in_default-clause-fault : goal.returns-in_default-clause-fault
returns-in_default-clause-fault c =
    λ _. (refl, items_lack_at child_view (labelled_child c.args.schemes.now.security c.args.schemes.now.integrity c.args.objects.now) c.args.children.now c.loop-child.child-index _ c.loop-child-test.true (sym c.in_default.ensures))

pub loop-child-preserved : goal.loop-child-preserved
loop-child-preserved c =
    items_at_more child_view (labelled_child c.args.schemes.now.security c.args.schemes.now.integrity c.args.objects.now) c.args.children.now c.loop-child.child-index _ _ _ c.in-Some.row c.loop-child-test.true (sym c.in-Some.ensures) c.in_ok-push.ensures.items c.loop-child.invariant

pub returns-clause-parents : goal.returns-clause-parents
returns-clause-parents c =
    parents_below c.args.schemes.now.security c.args.schemes.now.integrity c.args.objects.now (map child_view (take c.loop-child.child-index c.args.children.now)) c.loop-child.rows.items c.loop-child.invariant

pub returns-clause-count : goal.returns-clause-count
returns-clause-count c =
    count_made child_view (labelled_child c.args.schemes.now.security c.args.schemes.now.integrity c.args.objects.now) c.args.children.now c.loop-child.child-index c.loop-child.rows.items c.loop-child-test.false c.loop-child.invariant
