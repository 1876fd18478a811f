use Rattle.mls_about.proofs.asked_row.write_last.Goals as goal

pub returns : goal.returns
returns c = c.write_entry.ensures
