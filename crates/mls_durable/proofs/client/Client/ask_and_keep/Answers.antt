use Rattle.std.proofs.Common.{[], ◌++◌, sym, append-nil}
use Rattle.mls_scripts.specs.Lines.{closed_lines}
use Rattle.mls_scripts.specs.Script.{standing_of}
use Rattle.mls_durable.specs.Batches.{pending}
use Rattle.mls_durable.proofs.Batching.{known_steps, known_lines}
use Rattle.mls_durable.proofs.client.Client.ask_and_keep.Goals as goal

pub returns-clause-steps : goal.returns-clause-steps
returns-clause-steps g c =
    let names = c.args.names.now in
    let protocol = c.args.protocol in
    let first = pending (standing_of c.args.self.now.batch.vars.bound c.args.monitor.now) c.args.self.now.batch in
    let mid = pending (standing_of c.ask_lines.new.self.vars.bound c.ask_lines.new.monitor) c.ask_lines.new.self in
    let last = pending (standing_of c.keep_open.new.self.batch.vars.bound c.ask_lines.new.monitor) c.keep_open.new.self.batch in
    known_lines names protocol first last (closed_lines c.args.piece.now ++ []) (closed_lines c.args.piece.now) _ _ c.keep_open.result (sym (append-nil (closed_lines c.args.piece.now)))
    (known_steps names protocol {X = Unit {0}} {Y = Unit {0}} tt first mid last (closed_lines c.args.piece.now) [] _ _ _ c.keep_open.result c.in_ok-left.ensures.steps c.keep_open.ensures.steps)
