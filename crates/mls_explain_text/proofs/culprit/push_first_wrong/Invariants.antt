use Rattle.std.proofs.Common.{◌≡◌, map, drop, string_bytes}
use Rattle.mls_start_text.specs.Views.{file_view}
use Rattle.mls_explain_text.specs.Culprit.{culprit_text}
use Rattle.mls_explain_text.proofs.culprit.push_first_wrong.Given as goal

-- nothing is written yet, and it depends on what is left
abbrev pub invariant-loop-sort : goal.invariant-loop-sort
invariant-loop-sort l =
    (string_bytes l.text ≡ string_bytes l.fn.text)
    × (culprit_text (file_view l.file) l.fault l.sorts (map (λ word. word.now) l.words) ≡ culprit_text (file_view l.file) l.fault (drop l.sort-index l.sorts) (map (λ word. word.now) l.rest))
