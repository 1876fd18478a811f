use Rattle.std.proofs.lemmas.Result.{err_from_is_err_and}
use Rattle.mls_scripts.specs.Script.{standing_of}
use Rattle.mls_scripts.proofs.Pieces.{feeds_open, feeds_stop, feeds_on}
use Rattle.mls_scripts.proofs.served.Served.reply_piece.Goals as goal

pub returns-in_default-clause-fed : goal.returns-in_default-clause-fed
returns-in_default-clause-fed g c =
    feeds_open c.args.self.now.answering.script.names.now c.args.self.now.answering.script.session (g.W.Write.contents c.args.writer.now) (standing_of c.args.self.now.answering.vars.bound c.args.monitor.now)
    c.args.self.now.line.items c.keep.new.line.items c.args.piece.now c.keep.result c.in_default.ensures c.keep.ensures.ok c.keep.ensures.err

pub returns-in_err-end_line-clause-fed : goal.returns-in_err-end_line-clause-fed
returns-in_err-end_line-clause-fed g c =
    let p = err_from_is_err_and c.from_residual.result c.from_residual.ensures.1 in
    rw (p.1, p.2)
    (feeds_stop c.args.self.now.answering.script.names.now c.args.self.now.answering.script.session (g.W.Write.contents c.args.writer.now) _ (standing_of c.args.self.now.answering.vars.bound c.args.monitor.now) _
    c.args.self.now.line.items c.end_line.new.self.line.items c.args.piece.now _ _ _ c.in-Some.ensures c.in_err-end_line.ensures.replied)

pub returns-clause-fed : goal.returns-clause-fed
returns-clause-fed g c =
    feeds_on c.args.self.now.answering.script.names.now c.args.self.now.answering.script.session (g.W.Write.contents c.args.writer.now) (g.W.Write.contents c.end_line.new.writer) _
    (standing_of c.args.self.now.answering.vars.bound c.args.monitor.now) (standing_of c.end_line.new.self.answering.vars.bound c.end_line.new.monitor) _
    c.args.self.now.line.items c.reply_and_keep-2.new.self.line.items c.args.piece.now c.in-Some.last.now c.in-Some.rest.now _ _ c.reply_and_keep-2.result
    c.in-Some.ensures c.in_ok-end_line.ensures.replied c.in_ok-end_line.ensures.names c.in_ok-end_line.ensures.session c.reply_and_keep-2.ensures.answered c.reply_and_keep-2.ensures.line
