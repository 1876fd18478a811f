use Rattle.mls_differences.proofs.change_members.write_sides.Goals as goal

pub returns : goal.returns
returns c = c.write_two.ensures
