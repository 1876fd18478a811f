use Rattle.std.proofs.Common.{◌≡◌, ℕ, ◌<◌, ◌≤◌, false}
use Rattle.mls_remedies.specs.Steps.{may}
use Rattle.mls_remedies.proofs.able.next_able.Given as goal

-- none of the subjects that were looked at
abbrev pub invariant-loop-n : goal.invariant-loop-n
invariant-loop-n l = record {
  behind : l.from ≤ l.n;
  none : (a : ℕ) → l.from ≤ a → a < l.n → may l.state l.action a ≡ false;
}
