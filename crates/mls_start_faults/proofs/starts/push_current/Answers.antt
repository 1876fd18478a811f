use Rattle.std.proofs.Common.{◌++◌, ◌∙◌, ap, arith, map}
use Rattle.mls_start_faults.proofs.Each.{one_more}
use Rattle.mls_start_faults.specs.Starts.{current_place}
use Rattle.mls_start_faults.specs.Places.{located_view}
use Rattle.mls_start_faults.proofs.starts.push_current.Goals as goal

pub loop-n-preserved : goal.loop-n-preserved
loop-n-preserved c =
    one_more (current_place) 0 c.deref-subject-items.result.now c.loop-n.n c.subject-item.result c.loop-n.n _ _ _ c.loop-n-test.true (omega arith) c.loop-n.invariant (c.in_ok-push_subject.ensures ∙ ap (λ x. map located_view c.loop-n.found.items ++ current_place c.loop-n.n x) c.subject-item.is)
