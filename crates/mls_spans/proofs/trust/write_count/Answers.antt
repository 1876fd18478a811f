use Rattle.mls_spans.proofs.trust.write_count.Goals as goal

pub returns : goal.returns
returns c = c.write_number.ensures
