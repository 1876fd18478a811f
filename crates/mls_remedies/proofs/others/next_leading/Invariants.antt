use Rattle.std.proofs.Common.{◌≡◌, ℕ, ◌<◌, false, Some}
use Rattle.mls_remedies.specs.Others.{has_get}
use Rattle.mls_remedies.proofs.others.next_leading.Given as goal

-- none of the subjects that were looked at
abbrev pub invariant-loop-n : goal.invariant-loop-n
invariant-loop-n l = (a : ℕ) → a < l.n → has_get l.state l.action (Some l.p) a ≡ false
