use Rattle.mls_scripts.specs.Script.{standing_of}
use Rattle.mls_scripts.proofs.Pieces.{feeds_settled}
use Rattle.mls_scripts.proofs.served.Served.take_piece.Goals as goal

pub returns-clause-taken : goal.returns-clause-taken
returns-clause-taken g c =
    feeds_settled c.args.self.now.answering.script.names.now c.args.self.now.answering.script.session (g.W.Write.contents c.args.writer.now) (g.W.Write.contents c.reply_piece-outcome.new.writer) _
    (standing_of c.args.self.now.answering.vars.bound c.args.monitor.now) (standing_of c.reply_piece-outcome.new.self.answering.vars.bound c.reply_piece-outcome.new.monitor)
    c.args.self.now.line.items c.reply_piece-outcome.new.self.line.items c.args.piece.now c.reply_piece-outcome.result c.settle.result
    c.reply_piece-outcome.ensures.fed c.settle.ensures.same c.settle.ensures.outcome
