use Rattle.mls_differences.proofs.change_members.write_both_parents.Goals as goal

pub returns : goal.returns
returns c = c.write_two_parents.ensures
