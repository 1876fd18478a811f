use Rattle.std.proofs.Common.{◌≡◌}
use Rattle.mls_scripts.specs.Script.{standing_of}
use Rattle.mls_scripts.proofs.Progress.{SoFar}
use Rattle.mls_scripts.proofs.serving.serve_pieces.Given as goal

abbrev pub invariant-loop-count : goal.invariant-loop-count
invariant-loop-count g l = record {
  so_far : SoFar l.initial.served.answering.script.names.now l.initial.served.answering.script.session (g.R.Read.remaining l.initial.reader) (g.R.Read.remaining l.reader)
      (g.W.Write.contents l.initial.writer) (g.W.Write.contents l.writer)
      (standing_of l.initial.served.answering.vars.bound l.initial.monitor) (standing_of l.served.answering.vars.bound l.monitor) l.served.line.items l.room;
  names : l.served.answering.script.names.now ≡ l.initial.served.answering.script.names.now;
  session : l.served.answering.script.session ≡ l.initial.served.answering.script.session;
  forgotten : l.monitor.forgotten ≡ l.initial.monitor.forgotten;
}

abbrev pub decreases-loop-count : goal.decreases-loop-count
decreases-loop-count g l = l.room
