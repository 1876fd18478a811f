use Rattle.std.proofs.Common.{◌+◌, ◌++◌, ◌∷◌, [], length, get_or, ap, ◌∙◌}
use Rattle.std.specs.FinSet as set
use Rattle.std.proofs.lemmas.List.{length_push}
use Rattle.mls_spans.proofs.TurnSteps.{pushed_none}
use Rattle.mls_spans.proofs.granting.none_granted.Goals as goal

pub loop-s-preserved : goal.loop-s-preserved
loop-s-preserved c = record {
  subjects = ap length c.in_ok-push.ensures.items ∙ length_push c.loop-s.modes.items c.empty.result ∙ ap (λ n. n + 1) c.loop-s.invariant.subjects;
  none = λ k.
      ap (λ l. get_or l k set.empty) c.in_ok-push.ensures.items
      ∙ ap (λ m. get_or (c.loop-s.modes.items ++ m ∷ []) k set.empty) c.empty.ensures
      ∙ pushed_none c.loop-s.modes.items k (c.loop-s.invariant.none k);
}
