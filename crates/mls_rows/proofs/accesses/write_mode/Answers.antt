use Rattle.mls_rows.proofs.accesses.write_mode.Goals as goal

pub returns : goal.returns
returns c = c.write_mode_at.ensures
