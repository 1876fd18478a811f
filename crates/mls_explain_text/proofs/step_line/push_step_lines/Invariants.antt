use Rattle.std.proofs.Common.{◌≡◌, ◌++◌, take, string_bytes}
use Rattle.mls_explain_text.specs.Remedies.{step_lines}
use Rattle.mls_explain_text.proofs.step_line.push_step_lines.Given as goal

-- the lines of the steps so far are written
abbrev pub invariant-loop-step : goal.invariant-loop-step
invariant-loop-step l = string_bytes l.text ≡ string_bytes l.fn.text ++ step_lines l.names (take l.step-index l.steps)
