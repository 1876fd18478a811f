use Rattle.std.proofs.Common.{◌≡◌, [], length, string_bytes}
use Rattle.mls_scripts.specs.Script.{standing_of}
use Rattle.mls_durable.specs.Batches.{pending}
use Rattle.mls_durable.proofs.Pieces.{Taken}
use Rattle.mls_durable.proofs.attending.attend_pieces.Given as goal

abbrev pub invariant-loop : goal.invariant-loop
invariant-loop g l = record {
  taken : Taken l.names l.protocol (standing_of l.initial.client.batch.vars.bound l.initial.monitor)
      (pending (standing_of l.initial.client.batch.vars.bound l.initial.monitor) l.initial.client.batch)
      (g.R.Read.remaining l.initial.reader) (g.R.Read.remaining l.reader) (pending (standing_of l.client.batch.vars.bound l.monitor) l.client.batch) l.client.line.items
      (g.O.Outside.history l.initial.outside) (g.O.Outside.history l.outside);
  room : length l.buffer ≡ length l.initial.buffer;
  text : string_bytes l.client.batch.text ≡ [];
  answers : l.client.batch.answers.items ≡ [];
  start : l.monitor.start ≡ l.initial.monitor.start;
}
