use Rattle.std.proofs.Common.{◌≡◌, ℕ, ◌<◌, true}
use Rattle.std.specs.FinSet as set
use Rattle.mls_tables.specs.Triples.{Triple}
use Rattle.mls_state.specs.Audit.{access_holds}
use Rattle.mls_state.proofs.audit.accesses_hold.Given as goal

-- the accesses of the subjects that were looked at hold
abbrev pub invariant-loop-n : goal.invariant-loop-n
invariant-loop-n g l = (a : ℕ) → a < l.n → (t : Triple) → set.contains l.state.accesses t ≡ true → t.0 ≡ a → access_holds l.state t ≡ true
