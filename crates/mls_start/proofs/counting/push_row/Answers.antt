use Rattle.mls_facts.proofs.Gathered.{grows}
use Rattle.mls_start.proofs.TripleLists.{begins, row_none, row_more}
use Rattle.mls_start.proofs.counting.push_row.Goals as goal

pub loop-o-init : goal.loop-o-init
loop-o-init g c = begins _ _ (row_none _ _)

pub loop-o-preserved : goal.loop-o-preserved
loop-o-preserved g c = grows _ _ _ _ _ _ c.loop-o.invariant c.in_ok-push_cell.ensures (row_more _ _ _)
