use Rattle.mls_differences.proofs.replying.write_made.Goals as goal

pub returns : goal.returns
returns c = c.write_number.ensures
