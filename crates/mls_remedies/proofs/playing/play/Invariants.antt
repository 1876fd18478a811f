use Rattle.std.proofs.Common.{◌≡◌, drop}
use Rattle.mls_remedies.specs.Steps.{are_open, taken}
use Rattle.mls_remedies.proofs.playing.play.Given as goal

-- it depends on the steps that are left, from the state that was come to
abbrev pub invariant-loop-step : goal.invariant-loop-step
invariant-loop-step l = record {
  open_ : are_open l.fn.state l.steps ≡ are_open l.state (drop l.step-index l.steps);
  last : taken l.fn.state l.steps ≡ taken l.state (drop l.step-index l.steps);
}
