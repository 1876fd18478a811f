use Rattle.mls_shared_rows.proofs.asked.write_integrity_word.Goals as goal

pub returns : goal.returns
returns c = c.write_text.ensures
