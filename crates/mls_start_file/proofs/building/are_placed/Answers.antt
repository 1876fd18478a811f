use Rattle.std.proofs.Common.{sym, ◌∙◌}
use Rattle.mls_start_file.specs.Placing.{placed_child}
use Rattle.mls_start_file.proofs.Placed.{is_placed}
use Rattle.mls_start_text.proofs.Laws.{own_some_more, own_some_lacks}
use Rattle.mls_start_file.proofs.building.are_placed.Goals as goal

pub returns-then-is_none : goal.returns-then-is_none
returns-then-is_none c =
    sym (own_some_lacks placed_child c.args.children.now c.loop-child.child-index c.child-item.result c.loop-child-test.true c.child-item.is (is_placed c.child-item.result ∙ c.if-is_none.ensures))

pub loop-child-preserved : goal.loop-child-preserved
loop-child-preserved c =
    own_some_more placed_child c.args.children.now c.loop-child.child-index c.child-item.result c.loop-child-test.true c.child-item.is (is_placed c.child-item.result ∙ c.if-is_none.ensures) c.loop-child.invariant
