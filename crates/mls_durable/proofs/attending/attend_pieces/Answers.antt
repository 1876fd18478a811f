use Rattle.std.proofs.Common.{take, refl, ◌∙◌, rules, ◌≡◌, arith}
use Rattle.std.proofs.lemmas.Result.{err_from_is_err_and}
use Rattle.mls_scripts.specs.Script.{standing_of}
use Rattle.mls_durable.specs.Batches.{pending}
use Rattle.mls_durable.proofs.Pieces.{taken_none, taken_more, taken_short, attends_stop, attends_read, attends_end, keeps_itself}
use Rattle.mls_durable.proofs.attending.attend_pieces.Goals as goal

pub loop-init : goal.loop-init
loop-init g c = record {
  taken = taken_none c.args.names.now c.args.protocol (standing_of c.args.client.now.batch.vars.bound c.args.monitor.now)
      (pending (standing_of c.args.client.now.batch.vars.bound c.args.monitor.now) c.args.client.now.batch) (g.R.Read.remaining c.args.reader.now) c.args.client.now.line.items (g.O.Outside.history c.args.outside.now) c.requires.line;
  room = refl;
  text = c.requires.text;
  answers = c.requires.answers;
  start = refl;
}

pub take_piece-requires : goal.take_piece-requires
take_piece-requires g c = omega (arith, taken_short _ _ _ _ _ _ _ _ _ _ c.loop.invariant.taken, c.loop.client.line.ok.0)

pub returns-in_default-clause-attends : goal.returns-in_default-clause-attends
returns-in_default-clause-attends g c =
    let names = c.args.names.now in
    let protocol = c.args.protocol in
    let first = standing_of c.args.client.now.batch.vars.bound c.args.monitor.now in
    let begun = pending first c.args.client.now.batch in
    let p = pending (standing_of c.loop.client.batch.vars.bound c.loop.monitor) c.loop.client.batch in
    attends_read names protocol first begun (Unit {0}) (g.R.Read.remaining c.args.reader.now) (g.R.Read.remaining c.loop.reader) (g.R.Read.remaining c.read.new.self) p c.loop.client.line.items
    (g.O.Outside.history c.args.outside.now) (g.O.Outside.history c.loop.outside) c.loop.monitor.entries c.loop.invariant.taken c.in_default.ensures.bytes c.loop.invariant.text c.loop.invariant.answers refl

pub returns-then-count-eq0-clause-attends : goal.returns-then-count-eq0-clause-attends
returns-then-count-eq0-clause-attends g c =
    let names = c.args.names.now in
    let protocol = c.args.protocol in
    let first = standing_of c.args.client.now.batch.vars.bound c.args.monitor.now in
    let begun = pending first c.args.client.now.batch in
    let p = pending (standing_of c.loop.client.batch.vars.bound c.loop.monitor) c.loop.client.batch in
    let none : c.in-Ok.count ≡ 0 = c.if-count-eq0.true in
    attends_end names protocol first begun {X = Unit {0}} (g.R.Read.remaining c.args.reader.now) (g.R.Read.remaining c.loop.reader) (g.R.Read.remaining c.read.new.self) p c.loop.client.line.items
    (g.O.Outside.history c.args.outside.now) (g.O.Outside.history c.loop.outside) c.loop.monitor.entries c.take_end.result
    c.loop.invariant.taken (rw none at c.in-Ok.ensures.bytes.0) (c.in-Ok.ensures.bytes.1 none (search rules)) c.take_end.ensures c.loop.invariant.text c.loop.invariant.answers refl

pub returns-in_err-take_piece-clause-attends : goal.returns-in_err-take_piece-clause-attends
returns-in_err-take_piece-clause-attends g c =
    let q = err_from_is_err_and c.from_residual.result c.from_residual.ensures.1 in
    let names = c.args.names.now in
    let protocol = c.args.protocol in
    let first = standing_of c.args.client.now.batch.vars.bound c.args.monitor.now in
    let begun = pending first c.args.client.now.batch in
    let p = pending (standing_of c.loop.client.batch.vars.bound c.loop.monitor) c.loop.client.batch in
    let new = pending (standing_of c.take_piece.new.self.batch.vars.bound c.take_piece.new.monitor) c.take_piece.new.self.batch in
    rw (q.1, q.2)
    (attends_stop names protocol first begun (Unit {0}) (g.R.Read.remaining c.args.reader.now) (g.R.Read.remaining c.loop.reader) (g.R.Read.remaining c.read.new.self) p new c.loop.client.line.items c.take_piece.new.self.line.items
    (take c.in-Ok.count c.read.new.buf) (g.O.Outside.history c.args.outside.now) (g.O.Outside.history c.loop.outside) (g.O.Outside.history c.take_piece.new.outside) c.take_piece.new.monitor.entries
    c.in_err-take_piece.field-0.0 c.loop.invariant.taken c.in-Ok.ensures.bytes.0 c.in_err-take_piece.ensures.steps refl)

pub loop-preserved : goal.loop-preserved
loop-preserved g c =
    let names = c.args.names.now in
    let protocol = c.args.protocol in
    let first = standing_of c.args.client.now.batch.vars.bound c.args.monitor.now in
    let begun = pending first c.args.client.now.batch in
    let p = pending (standing_of c.loop.client.batch.vars.bound c.loop.monitor) c.loop.client.batch in
    let new = pending (standing_of c.take_piece.new.self.batch.vars.bound c.take_piece.new.monitor) c.take_piece.new.self.batch in
    record {
      taken = taken_more names protocol first begun tt (g.R.Read.remaining c.args.reader.now) (g.R.Read.remaining c.loop.reader) (g.R.Read.remaining c.read.new.self) p new c.loop.client.line.items c.take_piece.new.self.line.items
          (take c.in-Ok.count c.read.new.buf) (g.O.Outside.history c.args.outside.now) (g.O.Outside.history c.loop.outside) (g.O.Outside.history c.take_piece.new.outside)
          c.loop.invariant.taken c.in-Ok.ensures.bytes.0 c.in_ok-take_piece.ensures.steps c.in_ok-take_piece.ensures.kept;
      room = c.read.auto.buf ∙ c.loop.invariant.room;
      text = c.in_ok-take_piece.ensures.text;
      answers = c.in_ok-take_piece.ensures.answers;
      start = c.in_ok-take_piece.ensures.start ∙ c.loop.invariant.start;
    }

pub returns-clause-attends : goal.returns-clause-attends
returns-clause-attends g c =
    let names = c.args.names.now in
    let protocol = c.args.protocol in
    let first = standing_of c.args.client.now.batch.vars.bound c.args.monitor.now in
    let begun = pending first c.args.client.now.batch in
    let p = pending (standing_of c.loop.client.batch.vars.bound c.loop.monitor) c.loop.client.batch in
    attends_read names protocol first begun (Unit {0}) (g.R.Read.remaining c.args.reader.now) (g.R.Read.remaining c.loop.reader) (g.R.Read.remaining c.loop.reader) p c.loop.client.line.items
    (g.O.Outside.history c.args.outside.now) (g.O.Outside.history c.loop.outside) c.loop.monitor.entries c.loop.invariant.taken (keeps_itself (g.R.Read.remaining c.loop.reader)) c.loop.invariant.text c.loop.invariant.answers refl
