use Rattle.std.proofs.Common.{◌≡◌, length}
use Rattle.mls_scripts.specs.Script.{standing_of}
use Rattle.mls_scripts.proofs.Pieces.{Cut}
use Rattle.mls_scripts.proofs.answering.Answering.reply_all.Given as goal

abbrev pub invariant-loop-line : goal.invariant-loop-line
invariant-loop-line g l = record {
  cut : Cut l.initial.self.script.names.now l.initial.self.script.session (g.W.Write.contents l.initial.writer) (g.W.Write.contents l.writer)
      (standing_of l.initial.self.vars.bound l.initial.monitor) (standing_of l.self.vars.bound l.monitor) l.piece l.rest;
  names : l.self.script.names.now ≡ l.initial.self.script.names.now;
  session : l.self.script.session ≡ l.initial.self.script.session;
  forgotten : l.monitor.forgotten ≡ l.initial.monitor.forgotten;
}

abbrev pub decreases-loop-line : goal.decreases-loop-line
decreases-loop-line g l = length l.rest
