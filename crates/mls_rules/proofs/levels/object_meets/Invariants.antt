use Rattle.std.proofs.Common.{◌≡◌, true, take}
use Rattle.std.specs.List.{list_all}
use Rattle.mls_tables.specs.Held.{each_mode}
use Rattle.mls_rules.proofs.levels.object_meets.Given as goal

-- the accesses that were looked at meet the demand
abbrev pub invariant-loop-s : goal.invariant-loop-s
invariant-loop-s g l = list_all (λ s. each_mode l.state.accesses s l.o (g.D.LevelDemand.asked l.demand l.state)) (take l.s-index l.s-items) ≡ true
