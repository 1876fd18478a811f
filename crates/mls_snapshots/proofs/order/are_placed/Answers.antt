use Rattle.std.proofs.Common.{ℕ, length, refl, arith}
use Rattle.std.proofs.lemmas.Option.{slice_get_read}
use Rattle.mls_snapshots.specs.Orders.{IsPlaced}
use Rattle.mls_snapshots.proofs.Gets.{place_more, all_places}
use Rattle.mls_snapshots.proofs.order.are_placed.Goals as goal

pub loop-k-preserved : goal.loop-k-preserved
loop-k-preserved c =
    place_more c.args.order.now (λ (j p : ℕ). IsPlaced c.args.state.now c.args.order.now j p) c.loop-k.k c.index-order-k.result c.loop-k.invariant
    (slice_get_read c.args.order.now (length c.args.order.now) c.loop-k.k c.index-order-k.result refl c.loop-k-test.true c.index-order-k.is)
    (c.is_placed.ensures c.if-not-is_placed.false)

pub returns : goal.returns
returns c = λ _. all_places c.args.order.now (λ (j p : ℕ). IsPlaced c.args.state.now c.args.order.now j p) (λ j p below. c.loop-k.invariant j p (omega arith))
