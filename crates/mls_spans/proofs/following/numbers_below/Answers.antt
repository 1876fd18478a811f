use Rattle.std.proofs.Common.{◌++◌, ◌∷◌, [], sym, ap, ◌∙◌}
use Rattle.mls_spans.proofs.Places.{range_more}
use Rattle.mls_spans.proofs.following.numbers_below.Goals as goal

pub loop-at-preserved : goal.loop-at-preserved
loop-at-preserved c = c.in_ok-push.ensures.items ∙ ap (λ l. l ++ c.loop-at.at ∷ []) c.loop-at.invariant ∙ sym (range_more c.loop-at.at)
