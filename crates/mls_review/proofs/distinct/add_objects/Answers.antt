use Rattle.std.proofs.Common.{ap, ◌∙◌}
use Rattle.std.specs.List.{fold}
use Rattle.mls_review.specs.Distinct.{with_one, labels_of_object}
use Rattle.mls_review.proofs.Firsts.{added_more}
use Rattle.mls_review.proofs.distinct.add_objects.Goals as goal

pub loop-n-preserved : goal.loop-n-preserved
loop-n-preserved g c =
    added_more (labels_of_object c.args.state.now) c.loop-n.n c.args.labels.now.items c.loop-n.labels.items c.add_object.new.labels.items c.loop-n.invariant
    (c.in_ok-add_object.ensures ∙ ap (λ o. fold with_one c.loop-n.labels.items (labels_of_object c.args.state.now o)) c.new.ensures)
