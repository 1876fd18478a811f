use Rattle.mls_differences.proofs.thing.write_both.Goals as goal

pub returns : goal.returns
returns c = c.write_texts.ensures
