use Rattle.mls_answers.proofs.checked_row.write_cells.Goals as goal

pub returns : goal.returns
returns c = c.write_number.ensures
