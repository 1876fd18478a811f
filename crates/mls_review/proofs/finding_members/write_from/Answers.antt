use Rattle.mls_review.proofs.finding_members.write_from.Goals as goal

pub returns : goal.returns
returns c = c.write_object_at.ensures
