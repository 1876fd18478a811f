use Rattle.mls_differences.proofs.get_row.write_get.Goals as goal

pub returns : goal.returns
returns c = c.write_difference.ensures
