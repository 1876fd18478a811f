use Rattle.std.proofs.Common.{◌≡◌, map, drop, string_bytes}
use Rattle.mls_explain_text.specs.Nearest.{first_at}
use Rattle.mls_explain_text.proofs.nearest.push_first_at.Given as goal

-- nothing is written yet, and it depends on what is left
abbrev pub invariant-loop-name : goal.invariant-loop-name
invariant-loop-name l =
    (string_bytes l.text ≡ string_bytes l.fn.text)
    × (first_at l.far l.word (map (λ name. name.now) l.names) ≡ first_at l.far l.word (map (λ name. name.now) (drop l.name-index l.names)))
