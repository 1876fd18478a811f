use Rattle.std.proofs.Common.{◌≡◌, ◌++◌, take, string_bytes}
use Rattle.mls_explain_text.specs.Who.{prospect_lines}
use Rattle.mls_explain_text.proofs.prospect_line.push_prospects.Given as goal

-- the lines of those so far are written
abbrev pub invariant-loop-prospect : goal.invariant-loop-prospect
invariant-loop-prospect l = string_bytes l.text ≡ string_bytes l.fn.text ++ prospect_lines l.names l.state (take l.prospect-index l.prospects)
