use Rattle.mls_spans.proofs.edges.write_end.Goals as goal

pub returns : goal.returns
returns c = c.write_entry.ensures
