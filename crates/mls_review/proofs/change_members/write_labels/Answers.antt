use Rattle.mls_review.proofs.change_members.write_labels.Goals as goal

pub returns : goal.returns
returns c = c.write_list.ensures
