use Rattle.std.proofs.Common.{◌≡◌, length}
use denote.Shadow.{shadow}
use denote.Text.{Utf8}
use Rattle.mls_explain_text.specs.Under.{told_lines}
use Rattle.mls_explain_text.proofs.under.behind_first_line.Given as goal

-- no line was met so far
abbrev pub invariant-loop-rest : goal.invariant-loop-rest
invariant-loop-rest l = shadow (Utf8 l.rest) × (told_lines l.rest ≡ told_lines l.told)

abbrev pub decreases-loop-rest : goal.decreases-loop-rest
decreases-loop-rest l = length l.rest
