use Rattle.mls_start_faults.proofs.refused_json.write_at.Goals as goal

pub returns : goal.returns
returns c = c.write_two.ensures
