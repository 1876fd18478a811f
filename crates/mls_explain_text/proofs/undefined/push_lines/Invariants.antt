use Rattle.std.proofs.Common.{◌≡◌, ◌++◌, take, string_bytes}
use Rattle.mls_explain_text.specs.Explained.{unknown_lines}
use Rattle.mls_explain_text.proofs.undefined.push_lines.Given as goal

-- the lines of those so far are written
abbrev pub invariant-loop-one : goal.invariant-loop-one
invariant-loop-one l = string_bytes l.text ≡ string_bytes l.fn.text ++ unknown_lines l.names (take l.one-index l.unknown)
