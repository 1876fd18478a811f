use Rattle.std.proofs.Common.{◌≡◌, ◌+◌, ◌++◌, map, take, sym, ap, ◌∙◌}
use Rattle.std.specs.List.{flat_map}
use Rattle.mls_facts.proofs.Gathered.{flat_map_more, grows}
use Rattle.mls_review.specs.Granted.{change_view}
use Rattle.mls_review.specs.Powers.{granted_of}
use Rattle.mls_review.proofs.authority.push_subjects.Goals as goal

pub loop-s-preserved : goal.loop-s-preserved
loop-s-preserved g c =
    let rows = granted_of c.args.state.now c.args.downgrades in
    let before = flat_map rows (take c.loop-s.s-index c.args.subjects.now) in
    let after = flat_map rows (take (c.loop-s.s-index + 1) c.args.subjects.now) in
    let more : after ≡ before ++ rows c.s-item.result =
    flat_map_more rows c.args.subjects.now c.loop-s.s-index c.s-item.result c.loop-s-test.true ∙ ap (λ it. before ++ rows it) (sym c.s-item.is) in
    grows (map change_view c.args.found.now.items) (map change_view c.loop-s.found.items) (map change_view c.push_subject.new.found.items) before after (rows c.s-item.result)
    c.loop-s.invariant c.in_ok-push_subject.ensures more
