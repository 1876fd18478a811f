use Rattle.mls_explain_text.proofs.unknown_members.write_no_integrity.Goals as goal

pub returns : goal.returns
returns c = c.write_what.ensures
