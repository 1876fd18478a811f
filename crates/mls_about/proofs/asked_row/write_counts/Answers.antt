use Rattle.mls_about.proofs.asked_row.write_counts.Goals as goal

pub returns : goal.returns
returns c = c.write_two.ensures
