use Rattle.std.proofs.Common.{◌≡◌, ◌≤◌, take, vec_len, vec_capacity}
use Rattle.mls_sessions.specs.Sessions.{Leads, number_of}
use Rattle.mls_sessions.specs.Feeds.{AllGet}
use Rattle.mls_sessions.proofs.answering.answer_all.Given as goal

abbrev pub invariant-loop-ask : goal.invariant-loop-ask
invariant-loop-ask l = record {
  seat : (l.seat.table_id ≡ l.initial.seat.table_id) × (l.seat.id ≡ l.initial.seat.id);
  session : Leads l.gate.key l.turn l.seat.me × (l.number ≡ number_of l.seat.me.0);
  answered : AllGet l.number l.fn.monitor (take l.ask-index l.asks) l.answers.items l.turn;
  count : vec_len l.answers ≡ l.ask-index;
  room : vec_capacity l.initial.answers ≤ vec_capacity l.answers;
}
