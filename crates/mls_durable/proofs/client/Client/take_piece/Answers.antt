use Rattle.std.proofs.Common.{[], ◌++◌, sym, append-nil, subst}
use Rattle.std.proofs.lemmas.Result.{err_from_is_err_and}
use Rattle.mls_scripts.specs.Lines.{closed_lines}
use Rattle.mls_scripts.specs.Script.{standing_of}
use Rattle.mls_durable.specs.Batches.{Steps, pending}
use Rattle.mls_durable.specs.History.{Known}
use Rattle.mls_durable.proofs.Batching.{known_steps, known_lines}
use Rattle.mls_durable.proofs.client.Client.take_piece.Goals as goal

pub returns-in_err-ask_piece-clause-steps : goal.returns-in_err-ask_piece-clause-steps
returns-in_err-ask_piece-clause-steps g c =
    let p = err_from_is_err_and c.from_residual.result c.from_residual.ensures.1 in
    rw (p.1, p.2) c.in_err-ask_piece.ensures.steps

pub returns-clause-steps : goal.returns-clause-steps
returns-clause-steps g c =
    let names = c.args.names.now in
    let protocol = c.args.protocol in
    let first = pending (standing_of c.args.self.now.batch.vars.bound c.args.monitor.now) c.args.self.now.batch in
    let monitor = c.ask_piece.new.monitor in
    let now = standing_of c.ask_piece.new.self.batch.vars.bound monitor in
    let mid = pending now c.ask_piece.new.self.batch in
    let last = pending (standing_of c.commit.new.self.vars.bound monitor) c.commit.new.self in
    λ line none is.
    known_lines names protocol first last (closed_lines (line ++ c.args.piece.now) ++ []) (closed_lines (line ++ c.args.piece.now)) _ _ c.commit.result (sym (append-nil (closed_lines (line ++ c.args.piece.now))))
    (known_steps names protocol {X = Unit {0}} {Y = Unit {0}} tt first mid last (closed_lines (line ++ c.args.piece.now)) [] _ _ _ c.commit.result (c.in_ok-ask_piece.ensures.steps line none is)
    (subst (λ vars. Known (g.O.Outside.history c.ask_piece.new.outside) (g.O.Outside.history c.commit.new.outside) (λ h k. Steps {X = Unit {0}} names protocol mid (pending (standing_of vars monitor) c.commit.new.self) [] h k c.commit.result))
    (sym c.commit.ensures.vars) (c.commit.ensures.steps names protocol now)))
