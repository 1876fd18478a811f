use Rattle.std.proofs.Common.{sym, ap, ◌∙◌, ◌+◌, map, drop, ◌||◌}
use Rattle.mls_labels.specs.Names.{has_twice}
use Rattle.mls_labels.proofs.NameLists.{has_twice-drop}
use Rattle.mls_labels.proofs.names.has_twice.Goals as goal

pub returns-then-stands_in : goal.returns-then-stands_in
returns-then-stands_in c =
    let found = rw c.split_at.ensures.back at c.stands_in.ensures in
    sym (c.loop-i.invariant ∙ has_twice-drop c.args.texts.now c.loop-i.i _ c.loop-i-test.true
    ∙ ap (λ t. t || has_twice (map (λ text. text.now) (drop (c.loop-i.i + 1) c.args.texts.now))) (sym found ∙ c.if-stands_in.true))

pub loop-i-preserved : goal.loop-i-preserved
loop-i-preserved c =
    let found = rw c.split_at.ensures.back at c.stands_in.ensures in
    c.loop-i.invariant ∙ has_twice-drop c.args.texts.now c.loop-i.i _ c.loop-i-test.true
    ∙ ap (λ t. t || has_twice (map (λ text. text.now) (drop (c.loop-i.i + 1) c.args.texts.now))) (sym found ∙ c.if-stands_in.false)
