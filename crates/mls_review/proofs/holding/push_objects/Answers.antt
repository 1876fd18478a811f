use Rattle.std.proofs.Common.{◌++◌, ap, ◌∙◌}
use Rattle.mls_review.specs.Drawing.{object_holders}
use Rattle.mls_review.proofs.Lists.{below_more, below_start}
use Rattle.mls_review.proofs.holding.push_objects.Goals as goal

pub loop-n-preserved : goal.loop-n-preserved
loop-n-preserved c =
    let f = object_holders c.args.state.now c.args.label.now in
    below_more f c.loop-n.n c.args.found.now.items c.loop-n.found.items c.push_object.new.found.items c.loop-n.invariant
    (c.in_ok-push_object.ensures ∙ ap (λ k. c.loop-n.found.items ++ f k) c.new.ensures)

pub loop-n-init : goal.loop-n-init
loop-n-init c = below_start (object_holders c.args.state.now c.args.label.now) c.args.found.now.items
