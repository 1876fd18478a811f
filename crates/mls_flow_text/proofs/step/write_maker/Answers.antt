use Rattle.mls_flow_text.proofs.step.write_maker.Goals as goal

pub returns : goal.returns
returns c = c.write_subject_at.ensures
