use Rattle.mls_shared_rows.proofs.kinds.write_kind.Goals as goal

pub returns : goal.returns
returns c = c.write_text.ensures
