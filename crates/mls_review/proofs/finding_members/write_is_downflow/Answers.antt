use Rattle.mls_review.proofs.finding_members.write_is_downflow.Goals as goal

pub returns : goal.returns
returns c = c.write_kind.ensures
