use Rattle.mls_differences.proofs.count.write_gets.Goals as goal

pub returns : goal.returns
returns c = c.write_number.ensures
