use Rattle.mls_paths.proofs.way.+push_way.Given as goal

-- the index falls
abbrev pub decreases-push_way : goal.decreases-push_way
decreases-push_way l = l.at
