use Rattle.mls_start_faults.proofs.place_row.write_finding.Goals as goal

pub returns : goal.returns
returns c = c.write_text.ensures
