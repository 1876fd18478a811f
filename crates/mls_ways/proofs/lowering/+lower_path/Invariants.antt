use Rattle.mls_ways.proofs.lowering.+lower_path.Given as goal

-- the steps that are left
abbrev pub decreases-lower_path : goal.decreases-lower_path
decreases-lower_path l = l.left
