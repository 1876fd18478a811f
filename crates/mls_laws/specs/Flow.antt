-- Flow: what may pass from object to object through the accesses that subjects hold at once.
use Rattle.std.specs.Prelude.{◌≡◌, ℕ, false, IsTrue}
use Rattle.std.specs.FinSet as set
use Rattle.mls_tables.specs.Mode.{observes, alters, uses}
use Rattle.mls_tables.specs.declared.mode.Mode.{Mode}
use Rattle.mls_state.specs.State.{State}

-- One object flows to another where a subject that isn't trusted holds both, the first in a mode that observes and the
-- second in one that alters. (own, after MTR-2997's reason for the *-property)
pub record Flows (v : State) (a b : ℕ) : Type 0 where
  pub subject : ℕ
  pub seen_in : Mode
  pub altered_in : Mode
  pub untrusted : set.contains v.trusted subject ≡ false
  pub holds_first : IsTrue (set.contains v.accesses (subject, a, seen_in))
  pub observes : IsTrue (observes seen_in)
  pub holds_second : IsTrue (set.contains v.accesses (subject, b, altered_in))
  pub alters : IsTrue (alters altered_in)

-- One object feeds another where a subject, trusted or not, holds both, the first in a mode that uses and the second in
-- one that alters. (own, after MTR-3153's reason for strict integrity)
pub record Feeds (v : State) (a b : ℕ) : Type 0 where
  pub subject : ℕ
  pub used_in : Mode
  pub altered_in : Mode
  pub holds_first : IsTrue (set.contains v.accesses (subject, a, used_in))
  pub uses : IsTrue (uses used_in)
  pub holds_second : IsTrue (set.contains v.accesses (subject, b, altered_in))
  pub alters : IsTrue (alters altered_in)

-- A chain of one or more steps from one object to another. (own)
pub data Chain (step : ℕ → ℕ → Type 0) : ℕ → ℕ → Type 0 where
  one : {a b : ℕ} → step a b → Chain step a b
  more : {a b c : ℕ} → step a b → Chain step b c → Chain step a c
