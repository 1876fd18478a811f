use Rattle.std.proofs.Common.{◌≡◌, ◌++◌, take, string_bytes}
use Rattle.std.specs.List.{flat_map}
use Rattle.mls_flow_text.specs.Steps.{step_text}
use Rattle.mls_flow_text.proofs.route.push_steps.Given as goal

-- the hands so far are appended
abbrev pub invariant-loop-step : goal.invariant-loop-step
invariant-loop-step l = string_bytes l.text ≡ string_bytes l.fn.text ++ flat_map (step_text l.names) (take l.step-index l.steps)
