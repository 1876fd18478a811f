use Rattle.mls_shared_rows.proofs.asked.write_whose.Goals as goal

pub returns : goal.returns
returns c = c.write_subject_at.ensures
