use Rattle.mls_rows.proofs.accesses.write_object.Goals as goal

pub returns : goal.returns
returns c = c.write_object_at.ensures
