use Rattle.mls_differences.proofs.change_members.write_both_truths.Goals as goal

pub returns : goal.returns
returns c = c.write_truths.ensures
