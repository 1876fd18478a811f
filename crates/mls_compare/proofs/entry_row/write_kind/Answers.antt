use Rattle.mls_compare.proofs.entry_row.write_kind.Goals as goal

pub returns : goal.returns
returns c = c.write_difference.ensures
