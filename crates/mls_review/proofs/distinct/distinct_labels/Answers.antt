use Rattle.std.proofs.Common.{ap, ◌∙◌}
use Rattle.std.specs.List.{fold}
use Rattle.mls_review.specs.Distinct.{with_one, subject_labels, object_labels}
use Rattle.mls_review.proofs.Firsts.{both_added}
use Rattle.mls_review.proofs.distinct.distinct_labels.Goals as goal

pub returns : goal.returns
returns g c =
    c.in_ok-add_objects.ensures ∙ ap (λ t. fold with_one t (object_labels c.args.state.now)) c.in_ok-labels.ensures
    ∙ both_added (subject_labels c.args.state.now) (object_labels c.args.state.now)
