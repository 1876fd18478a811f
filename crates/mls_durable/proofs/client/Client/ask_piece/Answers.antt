use Rattle.std.proofs.Common.{Err, ◌≡◌, true, ◌∷◌, [], ◌++◌, length, eqb, refl, rules, sym, ap, ◌∙◌}
use Rattle.std.proofs.lemmas.Result.{err_from_is_err_and}
use Rattle.mls_scripts.specs.Lines.{closed_lines}
use Rattle.mls_durable.specs.Sessions.{kept_of}
use Rattle.mls_scripts.specs.Script.{standing_of}
use Rattle.mls_scripts.proofs.Laws.{closed_lines-cuts, closed_lines-open, open_part-cuts, open_none, has_newline-joined}
use Rattle.mls_durable.proofs.KeptLines.{kept_nothing, kept_of-joined}
use Rattle.mls_durable.specs.Batches.{pending}
use Rattle.mls_durable.proofs.Batching.{known_stop, known_steps, known_lines}
use Rattle.mls_durable.proofs.LineFacts.{on_ok_map}
use Rattle.mls_durable.proofs.client.Client.ask_piece.Goals as goal

pub returns-then-is_empty-clause-steps : goal.returns-then-is_empty-clause-steps
returns-then-is_empty-clause-steps g c =
    let first = pending (standing_of c.args.self.now.batch.vars.bound c.args.monitor.now) c.args.self.now.batch in
    let last = pending (standing_of c.ask_and_keep.new.self.batch.vars.bound c.ask_and_keep.new.monitor) c.ask_and_keep.new.self.batch in
    let none_kept : true ≡ eqb (length c.args.self.now.line.items) 0 = search rules in
    λ line none is.
    known_lines c.args.names.now c.args.protocol first last (closed_lines c.args.piece.now) (closed_lines (line ++ c.args.piece.now)) _ _ c.ask_and_keep.result
    (ap (λ l. closed_lines (l ++ c.args.piece.now)) (kept_nothing c.args.self.now.line.items line none_kept is)) c.ask_and_keep.ensures.steps

pub returns-in_default-clause-steps : goal.returns-in_default-clause-steps
returns-in_default-clause-steps g c =
    let names = c.args.names.now in
    let protocol = c.args.protocol in
    let first = pending (standing_of c.args.self.now.batch.vars.bound c.args.monitor.now) c.args.self.now.batch in
    let last = pending (standing_of c.keep_open.new.self.batch.vars.bound c.args.monitor.now) c.keep_open.new.self.batch in
    λ line none is.
    known_lines names protocol first last [] (closed_lines (line ++ c.args.piece.now)) _ _ c.keep_open.result
    (closed_lines-open (line ++ c.args.piece.now) (has_newline-joined line c.args.piece.now none c.in_default.ensures)) c.keep_open.ensures.steps

pub returns-in_default-clause-kept : goal.returns-in_default-clause-kept
returns-in_default-clause-kept g c = λ line none is.
    on_ok_map _ _ c.keep_open.result (λ k.
    k ∙ ap (λ l. kept_of (l ++ c.args.piece.now)) is ∙ kept_of-joined line c.args.piece.now
    ∙ ap kept_of (sym (open_none (line ++ c.args.piece.now) (has_newline-joined line c.args.piece.now none c.in_default.ensures)))) c.keep_open.ensures.line

pub returns-in_err-end_line-clause-steps : goal.returns-in_err-end_line-clause-steps
returns-in_err-end_line-clause-steps g c =
    let p = err_from_is_err_and c.from_residual.result c.from_residual.ensures.1 in
    let names = c.args.names.now in
    let protocol = c.args.protocol in
    let first = pending (standing_of c.args.self.now.batch.vars.bound c.args.monitor.now) c.args.self.now.batch in
    let mid = pending (standing_of c.end_line.new.self.batch.vars.bound c.end_line.new.monitor) c.end_line.new.self.batch in
    rw (p.1, p.2) (λ line none is.
    known_lines names protocol {X = Unit {0}} first mid ((line ++ c.in-Some.last.now) ∷ closed_lines c.in-Some.rest.now) (closed_lines (line ++ c.args.piece.now)) _ _ (Err c.in_err-end_line.field-0.0)
    (closed_lines-cuts line c.args.piece.now c.in-Some.last.now c.in-Some.rest.now none c.in-Some.ensures)
    (known_stop names protocol (Unit {0}) (Unit {0}) first mid mid ((line ++ c.in-Some.last.now) ∷ []) (closed_lines c.in-Some.rest.now) _ _ c.in_err-end_line.field-0.0 refl (c.in_err-end_line.ensures.steps line is)))

pub returns-clause-steps : goal.returns-clause-steps
returns-clause-steps g c =
    let names = c.args.names.now in
    let protocol = c.args.protocol in
    let first = pending (standing_of c.args.self.now.batch.vars.bound c.args.monitor.now) c.args.self.now.batch in
    let mid = pending (standing_of c.end_line.new.self.batch.vars.bound c.end_line.new.monitor) c.end_line.new.self.batch in
    let last = pending (standing_of c.ask_and_keep-2.new.self.batch.vars.bound c.ask_and_keep-2.new.monitor) c.ask_and_keep-2.new.self.batch in
    λ line none is.
    known_lines names protocol first last ((line ++ c.in-Some.last.now) ∷ closed_lines c.in-Some.rest.now) (closed_lines (line ++ c.args.piece.now)) _ _ c.ask_and_keep-2.result
    (closed_lines-cuts line c.args.piece.now c.in-Some.last.now c.in-Some.rest.now none c.in-Some.ensures)
    (known_steps names protocol {X = Unit {0}} {Y = Unit {0}} tt first mid last ((line ++ c.in-Some.last.now) ∷ []) (closed_lines c.in-Some.rest.now) _ _ _ c.ask_and_keep-2.result
    (c.in_ok-end_line.ensures.steps line is) c.ask_and_keep-2.ensures.steps)

pub returns-clause-kept : goal.returns-clause-kept
returns-clause-kept g c = λ line none is.
    on_ok_map _ _ c.ask_and_keep-2.result (λ k. k ∙ ap kept_of (sym (open_part-cuts line c.args.piece.now c.in-Some.last.now c.in-Some.rest.now c.in-Some.ensures))) c.ask_and_keep-2.ensures.line
