use Rattle.mls_c.proofs.office_opening.+hand_out_below.Given as goal

-- the handles that are left
abbrev pub decreases-hand_out_below : goal.decreases-hand_out_below
decreases-hand_out_below l = l.n
