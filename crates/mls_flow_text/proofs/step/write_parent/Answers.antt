use Rattle.mls_flow_text.proofs.step.write_parent.Goals as goal

pub returns : goal.returns
returns c = c.write_object_at.ensures
