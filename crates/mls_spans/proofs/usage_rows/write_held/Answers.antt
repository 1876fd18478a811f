use Rattle.mls_spans.proofs.usage_rows.write_held.Goals as goal

pub returns : goal.returns
returns c = c.write_truth.ensures
