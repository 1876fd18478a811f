use Rattle.mls_rows.proofs.accesses.write_subject.Goals as goal

pub returns : goal.returns
returns c = c.write_subject_at.ensures
