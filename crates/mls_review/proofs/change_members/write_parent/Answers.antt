use Rattle.mls_review.proofs.change_members.write_parent.Goals as goal

pub returns : goal.returns
returns c = c.write_object_at.ensures
