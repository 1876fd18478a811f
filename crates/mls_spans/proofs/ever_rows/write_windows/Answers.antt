use Rattle.mls_spans.proofs.ever_rows.write_windows.Goals as goal

pub returns : goal.returns
returns c = c.write_list.ensures
