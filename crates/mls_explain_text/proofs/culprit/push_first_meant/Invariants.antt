use Rattle.std.proofs.Common.{◌≡◌, map, drop, string_bytes}
use Rattle.mls_explain_text.specs.Culprit.{first_meant}
use Rattle.mls_explain_text.proofs.culprit.push_first_meant.Given as goal

-- nothing is written yet, and it depends on what is left
abbrev pub invariant-loop-word : goal.invariant-loop-word
invariant-loop-word l =
    (string_bytes l.text ≡ string_bytes l.fn.text)
    × (first_meant (map (λ name. name.now) l.names) (map (λ word. word.now) l.words) ≡ first_meant (map (λ name. name.now) l.names) (map (λ word. word.now) (drop l.word-index l.words)))
