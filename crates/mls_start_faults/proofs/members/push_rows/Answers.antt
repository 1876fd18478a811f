use Rattle.std.proofs.Common.{◌++◌, ◌∙◌, ap, arith, map}
use Rattle.serde_json.specs.View.{view}
use Rattle.mls_start_faults.proofs.Each.{one_more_seen}
use Rattle.mls_start_faults.specs.Places.{located_view}
use Rattle.mls_start_faults.specs.Rows.{rows_at}
use Rattle.mls_start_faults.proofs.members.push_rows.Goals as goal

pub loop-n-preserved : goal.loop-n-preserved
loop-n-preserved c =
    one_more_seen view (rows_at c.args.row c.args.list.now) 0 c.args.rows.now c.loop-n.n c.index-rows-n.result c.loop-n.n _ _ _ c.loop-n-test.true (omega arith) c.loop-n.invariant
    (c.in_ok-push_row.ensures ∙ ap (λ x. map located_view c.loop-n.found.items ++ rows_at c.args.row c.args.list.now c.loop-n.n (view x)) c.index-rows-n.is)
