use Rattle.std.proofs.Common.{[], ap, ◌∙◌}
use Rattle.std.specs.List.{fold}
use Rattle.mls_review.specs.Distinct.{with_one, labels_of_subject}
use Rattle.mls_review.proofs.Firsts.{added_more}
use Rattle.mls_review.proofs.distinct.of_subjects.Goals as goal

pub loop-n-preserved : goal.loop-n-preserved
loop-n-preserved g c =
    added_more (labels_of_subject c.args.state.now) c.loop-n.n [] c.loop-n.labels.items c.add_subject.new.labels.items c.loop-n.invariant
    (c.in_ok-add_subject.ensures ∙ ap (λ s. fold with_one c.loop-n.labels.items (labels_of_subject c.args.state.now s)) c.new.ensures)
