use Rattle.std.proofs.Common.{◌≡◌}
use Rattle.mls_monitor.specs.Journal.{fold}
use Rattle.mls_sessions.specs.Cells.{Finer, OfActive}
use Rattle.mls_sessions.specs.Sessions.{member_of, taken_of, notes_of, noting}
use Rattle.mls_sessions.proofs.holding.blank_deleted.Given as goal

abbrev pub invariant-loop-i : goal.invariant-loop-i
invariant-loop-i l = record {
  seat : (l.seat.table_id ≡ l.initial.seat.table_id) × (l.seat.id ≡ l.initial.seat.id);
  holds : l.seat.me ≡ noting l.gate.key (member_of l.initial.seat.me.0) (taken_of l.initial.seat.me.0) (notes_of l.seat.me.0);
  finer : Finer (notes_of l.initial.seat.me.0) (notes_of l.seat.me.0);
  rest : OfActive (fold l.monitor.start l.monitor.entries) (notes_of l.seat.me.0) l.i;
}
