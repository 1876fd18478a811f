use Rattle.mls_compare.proofs.entry_row.write_place.Goals as goal

pub returns : goal.returns
returns c = c.write_number.ensures
