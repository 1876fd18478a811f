use Rattle.mls_shared_rows.proofs.subject_row.write_current.Goals as goal

pub returns : goal.returns
returns c = c.write_label.ensures
