use Rattle.mls_review.proofs.change_members.write_relabel.Goals as goal

pub returns : goal.returns
returns c = c.write_power.ensures
