use Rattle.mls_explain_text.proofs.unknown_members.write_integrity.Goals as goal

pub returns : goal.returns
returns c = c.write_integrity_at.ensures
