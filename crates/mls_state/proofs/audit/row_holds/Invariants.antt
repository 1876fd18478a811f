use Rattle.std.proofs.Common.{◌≡◌, true, take}
use Rattle.std.specs.List.{list_all}
use Rattle.mls_tables.specs.Held.{each_mode}
use Rattle.mls_state.specs.Audit.{access_holds}
use Rattle.mls_state.proofs.audit.row_holds.Given as goal

-- the accesses to the objects that were looked at hold
abbrev pub invariant-loop-o : goal.invariant-loop-o
invariant-loop-o g l = list_all (λ o. each_mode l.state.accesses l.s o (access_holds l.state)) (take l.o-index l.o-items) ≡ true
