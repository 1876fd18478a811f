use Rattle.std.proofs.Common.{◌∙◌, ◌++◌, ap, arith, map}
use Rattle.json.specs.Value.{value_view}
use Rattle.mls_start_faults.proofs.Each.{one_more_seen}
use Rattle.mls_start_faults.specs.Repeated.{row_places}
use Rattle.mls_start_faults.specs.Places.{located_view}
use Rattle.mls_start_faults.proofs.repeats.push_rows.Goals as goal

pub loop-n-preserved : goal.loop-n-preserved
loop-n-preserved c =
    one_more_seen value_view (row_places c.args.kept c.args.list.now) 0 c.args.rows.now c.loop-n.n _ c.loop-n.n _ _ _ c.loop-n-test.true (omega arith) c.loop-n.invariant
    (c.in_ok-push_row.ensures ∙ ap (λ v. map located_view c.loop-n.found.items ++ row_places c.args.kept c.args.list.now c.loop-n.n (value_view v)) c.index-rows-n.is)
