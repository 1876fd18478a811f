use Rattle.mls_shared_rows.proofs.subject_row.write_maximum.Goals as goal

pub returns : goal.returns
returns c = c.write_label.ensures
