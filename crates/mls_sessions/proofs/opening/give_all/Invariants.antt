use Rattle.std.proofs.Common.{◌≡◌, ◌≤◌, ◌-◌, [], vec_len, vec_capacity}
use Rattle.mls_sessions.specs.declared.gate_table.View.TheVariants.{Giving}
use Rattle.mls_sessions.specs.Sessions.{office_at, newcomers}
use Rattle.mls_sessions.proofs.opening.give_all.Given as goal

abbrev pub invariant-loop-number : goal.invariant-loop-number
invariant-loop-number l = (l.seat.table_id ≡ l.initial.seat.table_id) × (l.seat.me ≡ (Giving l.gate.key (l.count - l.number), []))
    × (l.sessions.items ≡ newcomers (office_at l.gate.table_id l.gate.key) l.number) × (vec_len l.sessions ≡ l.number) × (l.count ≤ vec_capacity l.sessions)
