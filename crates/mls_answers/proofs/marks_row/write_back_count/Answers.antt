use Rattle.mls_answers.proofs.marks_row.write_back_count.Goals as goal

pub returns : goal.returns
returns c = c.write_number.ensures
