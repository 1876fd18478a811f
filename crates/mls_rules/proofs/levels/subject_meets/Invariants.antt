use Rattle.std.proofs.Common.{◌≡◌, true, take}
use Rattle.std.specs.List.{list_all}
use Rattle.mls_tables.specs.Held.{each_mode}
use Rattle.mls_rules.proofs.levels.subject_meets.Given as goal

-- the accesses that were looked at meet the demand
abbrev pub invariant-loop-o : goal.invariant-loop-o
invariant-loop-o g l = list_all (λ o. each_mode l.state.accesses l.s o (g.D.LevelDemand.asked l.demand l.state)) (take l.o-index l.o-items) ≡ true
