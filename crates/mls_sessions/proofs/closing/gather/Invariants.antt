use Rattle.std.proofs.Common.{◌≡◌, ◌++◌, []}
use Rattle.mls_sessions.specs.declared.gate_table.View.TheVariants.{Sessions}
use Rattle.mls_sessions.specs.Sessions.{office_at, Ascending, members_of, members_in}
use Rattle.mls_sessions.proofs.closing.gather.Given as goal

abbrev pub invariant-loop-next : goal.invariant-loop-next
invariant-loop-next l = (l.all.table_id ≡ l.gate.table_id) × (l.all.me ≡ (Sessions l.gate.key (members_in l.all.me.0), []))
    × (members_of l.sessions.items ++ members_in l.all.me.0 ≡ members_of l.fn.sessions.items) × Ascending (office_at l.gate.table_id l.gate.key) 0 l.sessions.items

abbrev pub decreases-loop-next : goal.decreases-loop-next
decreases-loop-next l = goal.left-loop-next l
