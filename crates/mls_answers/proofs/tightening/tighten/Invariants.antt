use Rattle.std.proofs.Common.{take}
use Rattle.mls_answers.specs.Tightening.{IsTightened}
use Rattle.mls_answers.proofs.tightening.tighten.Given as goal

-- those so far are left out
abbrev pub invariant-loop-usage : goal.invariant-loop-usage
invariant-loop-usage l = IsTightened (take l.usage-index l.unused) l.fn.state l.state
