use Rattle.std.proofs.Common.{IsTrue, take}
use Rattle.mls_settings.specs.Settings.{are_right}
use Rattle.mls_settings.proofs.judging.judge.Given as goal

-- those so far are right
abbrev pub invariant-loop-k : goal.invariant-loop-k
invariant-loop-k l = IsTrue (are_right l.names (take l.k l.settings))
