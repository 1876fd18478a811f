use Rattle.std.proofs.Common.{◌≡◌, ◌++◌, take, string_bytes}
use Rattle.mls_explain_text.specs.Explained.{conditions_text}
use Rattle.mls_explain_text.proofs.condition_line.push_conditions.Given as goal

-- the lines of the conditions so far are written
abbrev pub invariant-loop-condition : goal.invariant-loop-condition
invariant-loop-condition l = string_bytes l.text ≡ string_bytes l.fn.text ++ conditions_text l.names l.state l.request (take l.condition-index l.conditions)
