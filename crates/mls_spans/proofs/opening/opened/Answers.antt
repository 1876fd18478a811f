use Rattle.mls_spans.proofs.Begins.{subject_more}
use Rattle.mls_spans.proofs.opening.opened.Goals as goal

pub loop-s-preserved : goal.loop-s-preserved
loop-s-preserved c = subject_more c.args.state.now c.loop-s.s c.loop-s.spans.items c.push_subject.new.spans.items c.loop-s.invariant c.in_ok-push_subject.ensures
