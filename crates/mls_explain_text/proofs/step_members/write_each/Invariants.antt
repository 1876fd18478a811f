use Rattle.std.proofs.Common.{◌≡◌, ◌++◌, take}
use Rattle.std.specs.List.{flat_map}
use Rattle.mls_explain_text.specs.StepMembers.{step_object}
use Rattle.mls_explain_text.proofs.step_members.write_each.Given as goal

-- the objects of the steps so far are written, and nothing else
abbrev pub invariant-loop-step : goal.invariant-loop-step
invariant-loop-step l =
    (l.writer.tokens ≡ l.fn.writer.tokens ++ flat_map (step_object l.names) (take l.step-index l.steps)) × (l.writer.before ≡ l.fn.writer.before)
