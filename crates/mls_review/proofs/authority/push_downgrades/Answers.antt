use Rattle.std.proofs.Common.{◌≡◌, ◌+◌, ◌++◌, map, take, sym, ap, ◌∙◌}
use Rattle.std.specs.List.{flat_map}
use Rattle.mls_facts.proofs.Gathered.{flat_map_more, grows}
use Rattle.mls_review.specs.Granted.{change_view}
use Rattle.mls_review.specs.Powers.{downgrades_of}
use Rattle.mls_review.proofs.authority.push_downgrades.Goals as goal

pub loop-o-preserved : goal.loop-o-preserved
loop-o-preserved g c =
    let rows = downgrades_of c.args.state.now c.args.labels.now c.args.s in
    let before = flat_map rows (take c.loop-o.o-index c.args.objects.now) in
    let after = flat_map rows (take (c.loop-o.o-index + 1) c.args.objects.now) in
    let more : after ≡ before ++ rows c.o-item.result =
    flat_map_more rows c.args.objects.now c.loop-o.o-index c.o-item.result c.loop-o-test.true ∙ ap (λ it. before ++ rows it) (sym c.o-item.is) in
    grows (map change_view c.args.found.now.items) (map change_view c.loop-o.found.items) (map change_view c.push_lower.new.found.items) before after (rows c.o-item.result)
    c.loop-o.invariant c.in_ok-push_lower.ensures more
