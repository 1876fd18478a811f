use Rattle.mls_spans.proofs.edges.write_by_none.Goals as goal

pub returns : goal.returns
returns c = c.write_null.ensures
