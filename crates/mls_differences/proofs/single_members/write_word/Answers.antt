use Rattle.mls_differences.proofs.single_members.write_word.Goals as goal

pub returns : goal.returns
returns c = c.write_text.ensures
