use Rattle.mls_facts.proofs.Gathered.{grows}
use Rattle.mls_start.proofs.TripleLists.{begins, rows_none, rows_more}
use Rattle.mls_start.proofs.counting.push_table.Goals as goal

pub loop-s-init : goal.loop-s-init
loop-s-init g c = begins _ _ (rows_none _ _)

pub loop-s-preserved : goal.loop-s-preserved
loop-s-preserved g c = grows _ _ _ _ _ _ c.loop-s.invariant c.in_ok-push_row.ensures (rows_more _ _ _)
