use Rattle.std.proofs.Common.{◌≡◌, ◌++◌, length, string_bytes}
use denote.Shadow.{shadow}
use denote.Text.{Utf8}
use Rattle.std.specs.List.{flat_map}
use Rattle.mls_explain_text.specs.Under.{indented, told_lines}
use Rattle.mls_explain_text.proofs.under.push_lines.Given as goal

-- what is written and what is left come to the whole
abbrev pub invariant-loop-rest : goal.invariant-loop-rest
invariant-loop-rest l =
    shadow (Utf8 l.rest)
    × (string_bytes l.text ++ flat_map indented (told_lines l.rest) ≡ string_bytes l.fn.text ++ flat_map indented (told_lines l.told))

abbrev pub decreases-loop-rest : goal.decreases-loop-rest
decreases-loop-rest l = length l.rest
