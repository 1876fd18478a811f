use Rattle.mls_spans.proofs.trust.write_last.Goals as goal

pub returns : goal.returns
returns c = c.write_entry.ensures
