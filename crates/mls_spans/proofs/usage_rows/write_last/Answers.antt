use Rattle.mls_spans.proofs.usage_rows.write_last.Goals as goal

pub returns : goal.returns
returns c = c.write_entry.ensures
