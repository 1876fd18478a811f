use Rattle.std.proofs.Common.{arith}
use Rattle.mls_start_faults.proofs.Each.{one_more_seen}
use Rattle.mls_start_faults.specs.Labels.{subject_places}
use Rattle.mls_start_text.specs.Views.{subject_view}
use Rattle.mls_start_faults.proofs.labels.push_subjects.Goals as goal

pub loop-n-preserved : goal.loop-n-preserved
loop-n-preserved c =
    one_more_seen subject_view (subject_places c.args.schemes.now.security c.args.schemes.now.integrity) 0 c.args.subjects.now c.loop-n.n _ c.loop-n.n _ _ _ c.loop-n-test.true (omega arith) c.loop-n.invariant c.in_ok-push_subject.ensures
