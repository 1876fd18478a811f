-- Permissions of no use: those with which the get is granted at no current label that the subject can have.
use Rattle.std.specs.Prelude.{◌≡◌, ℕ, ◌<◌, Bool, false, not, ◌&&◌, IsTrue, Option, Some, None, map, slice_get}
use Rattle.std.specs.Prelude.{if◌then◌else◌, is_some}
use Rattle.std.specs.FinSet as set
use Rattle.std.specs.FinMap as table
use Rattle.mls_labels.specs.Label.{Label}
use Rattle.mls_tables.specs.Triples.{Triple}
use Rattle.mls_requests.specs.declared.action.Action.TheVariants.{Get}
use Rattle.mls_requests.specs.declared.reason.Reason.{Reason}
use Rattle.mls_requests.specs.declared.reason.Reason.TheVariants.{Simple, Integrity}
use Rattle.mls_requests.specs.declared.reply.Reply.TheVariants.{Yes}
use Rattle.mls_requests.specs.declared.request.Request.{Request}
use Rattle.mls_state.specs.State.{State, is_above}
use Rattle.mls_state.specs.Changes.{with_current}
use Rattle.mls_state.specs.Properties.{simple_holds, integrity_holds}
use Rattle.mls_rules.specs.Rules.{conditions, reply}

-- The get of a permission. (own)
abbrev pub get_of : Triple → Request
get_of t = record { subject = t.0; action = Get t.2 t.1 }

-- The state with another current label of a subject, in which nothing is held. (own)
abbrev pub bare : State → ℕ → Label → State
bare v s l = record (with_current v s l) { accesses = set.empty }

-- A label is one that a subject can have as its current one: its maximum dominates it. (MTR-2997, the two components of
-- a subject's level)
abbrev pub IsWithinReach : State → ℕ → Label → Type 0
IsWithinReach v s l = IsTrue (is_above (table.get v.maximum s) (Some l))

-- A permission is dead: at each label within the subject's reach, where nothing is held, the get is refused. (own)
abbrev pub IsDead : State → Triple → Type 0
IsDead v t = (l : Label) → IsWithinReach v t.0 l → reply (bare v t.0 l) (get_of t) ≡ Yes → ⊥

-- Whether a condition fails. (own)
abbrev pub fails : Option (Reason × Bool) → Bool
fails None = false
fails (Some c) = not c.1

-- The condition of a get in a place fails at each label within the subject's reach, where nothing is held. (own)
abbrev pub FailsThroughout : State → Triple → ℕ → Type 0
FailsThroughout v t k = (l : Label) → IsWithinReach v t.0 l
    → IsTrue (fails (slice_get (conditions (bare v t.0 l) t.0 (Get t.2 t.1)) k))

-- A reason is that of the first condition, in the order in which they are tried, that fails at each such label. (own)
pub record IsReason (v : State) (t : Triple) (reason : Reason) : Type 0 where
  pub place : ℕ
  pub named : slice_get (map (λ c. c.0) (conditions v t.0 (Get t.2 t.1))) place ≡ Some reason
  pub fails : FailsThroughout v t place
  pub first : (k : ℕ) → k < place → FailsThroughout v t k → ⊥

-- What no current label mends, of what is in the way of a permission: simple security, else strict integrity; nothing
-- where neither is. Where they hold, star holds at some label within reach. (own)
abbrev pub obstacle : State → Triple → Option Reason
obstacle v t =
    if not (simple_holds v t) then Some Simple
    else if not (integrity_holds v t) then Some Integrity
    else None

-- Whether a triple is a permission that isn't dead. (own)
abbrev pub is_live : State → Triple → Bool
is_live v t = set.contains v.matrix t && not (is_some (obstacle v t))
