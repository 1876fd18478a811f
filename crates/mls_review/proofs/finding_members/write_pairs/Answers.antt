use Rattle.mls_review.proofs.finding_members.write_pairs.Goals as goal

pub returns : goal.returns
returns c = c.write_number.ensures
