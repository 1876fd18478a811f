use Rattle.std.proofs.Common.{◌++◌, ◌∙◌, ap, arith, map}
use Rattle.serde_json.specs.View.{view}
use Rattle.mls_start_faults.proofs.Each.{one_more_seen}
use Rattle.mls_start_faults.specs.Places.{located_view, part_steps}
use Rattle.mls_start_faults.specs.Rows.{item_places}
use Rattle.mls_start_faults.proofs.rows.push_items.Goals as goal

pub loop-k-preserved : goal.loop-k-preserved
loop-k-preserved c =
    one_more_seen view (item_places (part_steps c.args.part) c.args.member.now) 0 c.args.items.now c.loop-k.k c.index-items-k.result c.loop-k.k _ _ _ c.loop-k-test.true (omega arith) c.loop-k.invariant
    (c.in_ok-push_item.ensures ∙ ap (λ x. map located_view c.loop-k.found.items ++ item_places (part_steps c.args.part) c.args.member.now c.loop-k.k (view x)) c.index-items-k.is)
