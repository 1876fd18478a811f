use Rattle.std.proofs.Common.{arith}
use Rattle.mls_compare.proofs.Mapped.{map_more, map_whole}
use Rattle.mls_compare.proofs.map.map_text.Goals as goal

pub loop-new-preserved : goal.loop-new-preserved
loop-new-preserved c =
    map_more c.args.names.now c.args.order.now c.loop-new.new c.index-order-new.result _ _ c.loop-new-test.true c.index-order-new.is c.loop-new.invariant
    c.in_ok-push_line.ensures

pub returns : goal.returns
returns c = map_whole c.args.names.now c.args.order.now c.loop-new.new _ (omega arith) c.loop-new.invariant
