use Rattle.std.proofs.Common.{◌++◌, ap, ◌∙◌}
use Rattle.std.specs.List.{flat_map}
use Rattle.std.proofs.lemmas.List.{take_all}
use Rattle.mls_facts.proofs.Gathered.{flat_map_more, grows}
use Rattle.mls_differences.specs.Coulds.{cell_coulds}
use Rattle.mls_differences.proofs.coulds.push_row.Goals as goal

pub loop-o-preserved : goal.loop-o-preserved
loop-o-preserved c = λ here there first second.
    grows c.args.rows.now.items c.loop-o.rows.items c.push_cell.new.rows.items _ _ _ (c.loop-o.invariant here there first second)
    (c.in_ok-push_cell.ensures here there first second)
    (flat_map_more (cell_coulds here there c.args.s) c.args.objects.now c.loop-o.o-index _ c.loop-o-test.true)

pub returns : goal.returns
returns c = λ here there first second.
    c.loop-o.invariant here there first second
    ∙ ap (λ os. c.args.rows.now.items ++ flat_map (cell_coulds here there c.args.s) os) (take_all c.loop-o.o-index c.args.objects.now c.loop-o-test.false)
