use Rattle.std.proofs.Common.{◌≡◌, ℕ, ◌+◌, List, length, take, rules, arith, refl, ap, ◌∙◌}
use Rattle.std.proofs.lemmas.List.{length-take-le}
use Rattle.std.proofs.lemmas.Result.{err_from_is_err_and}
use Rattle.mls_scripts.specs.Script.{standing_of}
use Rattle.mls_scripts.proofs.Progress.{so_far_none, so_far_short, so_far_more, so_far_grows, end_grows, serves_read, serves_stop, serves_stop_last, serves_all, serves_too_long}
use Rattle.mls_scripts.proofs.serving.serve_pieces.Goals as goal

pub loop-count-init : goal.loop-count-init
loop-count-init g c = record { so_far = rw c.requires.line (so_far_none _ _ _ _ _); names = refl; session = refl; forgotten = refl }

pub returns-in_default-clause-ends : goal.returns-in_default-clause-ends
returns-in_default-clause-ends g c = serves_read _ _ _ _ _ _ _ _ _ _ _ c.loop-count.invariant.so_far c.in_default.ensures.bytes

pub returns-in_err-take_end-clause-ends : goal.returns-in_err-take_end-clause-ends
returns-in_err-take_end-clause-ends g c =
    let p = err_from_is_err_and c.from_residual.result c.from_residual.ensures.1 in
    let none : c.in-Ok.count ≡ 0 = c.if-count-eq0.true in
    rw (p.1, p.2)
    (serves_stop_last _ _ _ _ _ _ _ _ _ _ _ _ _ _ _ _ c.loop-count.invariant.so_far (rw none at c.in-Ok.ensures.bytes.0) (c.in-Ok.ensures.bytes.1 none (search rules))
    c.loop-count.invariant.names c.loop-count.invariant.session (λ line is_open is. c.in_err-take_end.ensures.taken line is_open is))

pub added-requires : goal.added-requires
added-requires g c =
    omega (
      arith,
      c.next_number-before.ensures.number,
      so_far_grows _ _ _ _ _ _ _ _ _ _ c.loop-count.invariant.so_far,
      end_grows _ _ _ _ _ _ _ _ _ _ _ (standing_of c.take_end.new.self.answering.vars.bound c.take_end.new.monitor) _ _ c.loop-count.invariant.so_far (λ line is_open is. c.in_ok-take_end.ensures.taken line is_open is),
    )

pub returns-then-count-eq0-clause-ends : goal.returns-then-count-eq0-clause-ends
returns-then-count-eq0-clause-ends g c =
    let none : c.in-Ok.count ≡ 0 = c.if-count-eq0.true in
    let more : length c.take_end.new.monitor.entries ≡ length c.args.monitor.now.entries + c.added.result =
    omega (
      arith,
      c.added.ensures,
      c.next_number-before.ensures.number,
      so_far_grows _ _ _ _ _ _ _ _ _ _ c.loop-count.invariant.so_far,
      end_grows _ _ _ _ _ _ _ _ _ _ _ (standing_of c.take_end.new.self.answering.vars.bound c.take_end.new.monitor) _ _ c.loop-count.invariant.so_far (λ line is_open is. c.in_ok-take_end.ensures.taken line is_open is),
    ) in
    serves_all _ _ _ _ _ _ _ _ _ _ _ _ (standing_of c.take_end.new.self.answering.vars.bound c.take_end.new.monitor) _ _ _ c.loop-count.invariant.so_far (rw none at c.in-Ok.ensures.bytes.0) (c.in-Ok.ensures.bytes.1 none (search rules))
    c.loop-count.invariant.names c.loop-count.invariant.session (λ line is_open is. c.in_ok-take_end.ensures.taken line is_open is) more

pub take_piece-requires : goal.take_piece-requires
take_piece-requires g c = omega (arith, so_far_short _ _ _ _ _ _ _ _ _ _ c.loop-count.invariant.so_far, c.loop-count.served.line.ok.0)

pub returns-in_err-take_piece-clause-ends : goal.returns-in_err-take_piece-clause-ends
returns-in_err-take_piece-clause-ends g c =
    let p = err_from_is_err_and c.from_residual-in_err-take_piece.result c.from_residual-in_err-take_piece.ensures.1 in
    rw (p.1, p.2)
    (serves_stop _ _ _ _ _ _ _ _ _ _ _ _ _ _ c.take_piece.new.self.line.items (take c.in-Ok.count c.read.new.buf) c.within.result.now _ _ c.loop-count.invariant.so_far
    c.in-Ok.ensures.bytes.0 c.within.ensures c.loop-count.invariant.names c.loop-count.invariant.session c.in_err-take_piece.ensures.taken)

pub returns-in_err-room-clause-ends : goal.returns-in_err-room-clause-ends
returns-in_err-room-clause-ends g c =
    let p = err_from_is_err_and c.from_residual-in_err-room.result c.from_residual-in_err-room.ensures.1 in
    let read : List ℕ = take c.in-Ok.count c.read.new.buf in
    let count : length read ≡ c.in-Ok.count = length-take-le c.in-Ok.count c.read.new.buf c.in-Ok.ensures.bound.0 in
    rw (p.1, p.2, c.in_err-room.ensures.err.0)
    (serves_too_long _ _ _ _ _ _ _ _ _ _ _ _ (standing_of c.take_piece.new.self.answering.vars.bound c.take_piece.new.monitor) _ c.take_piece.new.self.line.items read c.within.result.now _ c.in-Ok.count c.loop-count.invariant.so_far
    c.in-Ok.ensures.bytes.0 count c.in_err-room.ensures.err.1 c.within.ensures c.loop-count.invariant.names c.loop-count.invariant.session c.in_ok-take_piece.ensures.taken)

pub loop-count-preserved : goal.loop-count-preserved
loop-count-preserved g c =
    let read : List ℕ = take c.in-Ok.count c.read.new.buf in
    let count : length read ≡ c.in-Ok.count = length-take-le c.in-Ok.count c.read.new.buf c.in-Ok.ensures.bound.0 in
    record {
      so_far = so_far_more _ _ _ _ _ _ _ _ _ _ _ _ (standing_of c.take_piece.new.self.answering.vars.bound c.take_piece.new.monitor) _ _ read c.within.result.now _ _ c.in-Ok.count c.loop-count.invariant.so_far
          c.in-Ok.ensures.bytes.0 count c.in_ok-room.ensures.ok c.within.ensures c.loop-count.invariant.names c.loop-count.invariant.session c.in_ok-take_piece.ensures.taken;
      names = c.in_ok-take_piece.ensures.names ∙ c.loop-count.invariant.names;
      session = c.in_ok-take_piece.ensures.session ∙ c.loop-count.invariant.session;
      forgotten = c.in_ok-take_piece.ensures.forgotten ∙ c.loop-count.invariant.forgotten;
    }
