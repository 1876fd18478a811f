use Rattle.mls_differences.proofs.thing.write_difference.Goals as goal

pub returns : goal.returns
returns c = c.write_text.ensures
