use Rattle.std.proofs.Common.{◌+◌, arith}
use Rattle.mls_start_faults.proofs.Each.{one_more_seen}
use Rattle.mls_start_faults.specs.Labels.{child_places}
use Rattle.mls_start_text.specs.Views.{child_view}
use Rattle.mls_start_faults.proofs.labels.push_children.Goals as goal

pub loop-n-preserved : goal.loop-n-preserved
loop-n-preserved c =
    one_more_seen child_view (child_places c.args.schemes.now.security c.args.schemes.now.integrity) 1 c.args.children.now c.loop-n.n _ (c.loop-n.n + 1) _ _ _ c.loop-n-test.true (omega arith) c.loop-n.invariant c.in_ok-push_object.ensures
