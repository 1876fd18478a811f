use Rattle.mls_spans.specs.Kept.{is_there}
use Rattle.mls_spans.proofs.EverRows.{subject_more}
use Rattle.mls_spans.proofs.permissions.permissions_on.Goals as goal

pub loop-s-preserved : goal.loop-s-preserved
loop-s-preserved c =
    subject_more (is_there c.args.first.now c.args.tally.now) c.args.asked c.args.first.now c.args.o c.loop-s.s c.loop-s.found.items
    c.push_subject.new.found.items c.loop-s.invariant c.in_ok-push_subject.ensures
