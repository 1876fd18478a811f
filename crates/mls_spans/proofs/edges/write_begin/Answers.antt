use Rattle.mls_spans.proofs.edges.write_begin.Goals as goal

pub returns : goal.returns
returns c = c.write_entry.ensures
