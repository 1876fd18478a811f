use Rattle.mls_ways.proofs.bringing.+bring.Given as goal

-- the steps that are left
abbrev pub decreases-bring : goal.decreases-bring
decreases-bring l = l.left
