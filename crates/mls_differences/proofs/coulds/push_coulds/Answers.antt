use Rattle.std.proofs.Common.{◌++◌, ap, ◌∙◌}
use Rattle.std.specs.List.{flat_map}
use Rattle.std.proofs.lemmas.List.{take_all}
use Rattle.mls_facts.proofs.Gathered.{flat_map_more, grows}
use Rattle.mls_differences.specs.Coulds.{all_coulds, cell_coulds}
use Rattle.mls_differences.proofs.coulds.push_coulds.Goals as goal

pub loop-s-preserved : goal.loop-s-preserved
loop-s-preserved c = λ here there first second.
    grows c.args.rows.now.items c.loop-s.rows.items c.push_row.new.rows.items _ _ _ (c.loop-s.invariant here there first second)
    (c.in_ok-push_row.ensures here there first second)
    (flat_map_more (λ s. flat_map (cell_coulds here there s) c.args.objects.now) c.args.subjects.now c.loop-s.s-index _ c.loop-s-test.true)

pub returns : goal.returns
returns c = λ here there first second.
    c.loop-s.invariant here there first second
    ∙ ap (λ subjects. c.args.rows.now.items ++ all_coulds here there subjects c.args.objects.now)
    (take_all c.loop-s.s-index c.args.subjects.now c.loop-s-test.false)
