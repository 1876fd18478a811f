use Rattle.mls_shared_rows.proofs.asked.write_parent.Goals as goal

pub returns : goal.returns
returns c = c.write_object_at.ensures
