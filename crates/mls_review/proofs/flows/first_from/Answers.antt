use Rattle.std.proofs.Common.{ℕ}
use Rattle.std.specs.FinMap as map
use Rattle.mls_review.specs.Flows.{is_not_above}
use Rattle.mls_review.proofs.Pairs.{first_found, not_above}
use Rattle.mls_review.proofs.flows.first_from.Goals as goal

pub returns-then-is_not_above : goal.returns-then-is_not_above
returns-then-is_not_above g c =
    first_found (λ (k : ℕ). (c.args.a, k)) (is_not_above c.args.state.now (map.get c.args.state.now.object_label c.args.a)) c.args.altered.now c.loop-b.b-index c.b-item.result
    c.loop-b-test.true c.b-item.is c.loop-b.invariant
    (not_above c.args.state.now c.args.a c.b-item.result c.args.label.now c.is_not_above.result c.requires.label c.is_not_above.ensures c.if-is_not_above.true)
