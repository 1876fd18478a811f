-- Requests that lead from one state to another, one after the other.
use Rattle.std.specs.Prelude.{◌≡◌, ℕ, Bool, IsTrue, List, [], ◌∷◌, ◌++◌, Option, Some, None}
use Rattle.std.specs.FinMap as map
use Rattle.std.specs.FinSet as set
use Rattle.mls_labels.specs.Label.{Label}
use Rattle.mls_tables.specs.Triples.{Triple, is_triple}
use Rattle.mls_tables.specs.declared.mode.Mode.{Mode}
use Rattle.mls_tables.specs.declared.mode.Mode.TheVariants.{Execute, Read, Append, Write}
use Rattle.mls_requests.specs.declared.action.Action.{Action}
use Rattle.mls_requests.specs.declared.request.Request.{Request}
use Rattle.mls_state.specs.State.{State, is_active}
use Rattle.mls_state.specs.Properties.{IsSecure, simple_holds, star_holds}
use Rattle.mls_rules.specs.Rules.{after}
use Rattle.mls_laws.specs.Journals.{run}
use Rattle.mls_futures.specs.Futures.{HasLabelsWithin, HoldsNothing}
use Rattle.mls_futures.specs.Scripts.{AreGranted, AreOfActors, Alike}

-- The request of a subject. (own)
abbrev pub asks : ℕ → Action → Request
asks s action = record { subject = s; action = action }

-- The label that all others dominate. (own)
abbrev pub least : Label
least = record { level = 0; categories = set.empty }

-- A subject acts and is trusted. (own)
abbrev pub IsTrustedActor : State → (ℕ → Bool) → ℕ → Type 0
IsTrustedActor v acts s = IsTrue (acts s) × IsTrue (set.contains v.trusted s)

-- Nobody holds anything, and an object has the least label. (own)
abbrev pub IsLowered : ℕ → State → Type 0
IsLowered o v = HoldsNothing v × (map.get v.object_label o ≡ Some least)

-- Nobody holds anything, and simple security holds of an access. (own)
abbrev pub IsCleared : ℕ → ℕ → Mode → State → Type 0
IsCleared s o x v = HoldsNothing v × IsTrue (simple_holds v (s, o, x))

-- Nobody holds anything, and simple security and star hold of an access. (own)
abbrev pub IsReady : ℕ → ℕ → Mode → State → Type 0
IsReady s o x v = HoldsNothing v × IsTrue (simple_holds v (s, o, x)) × IsTrue (star_holds v (s, o, x))

-- Nobody holds anything, and an access is permitted. (own)
abbrev pub IsPermitted : Triple → State → Type 0
IsPermitted t v = HoldsNothing v × IsTrue (set.contains v.matrix t)

-- Just one access is held. (own)
abbrev pub HoldsOnly : Triple → State → Type 0
HoldsOnly t v = (u : Triple) → set.contains v.accesses u ≡ is_triple u t

-- The level at which star holds of an access to an object with a label, where simple security does. (own)
abbrev pub level_for : Option Label → Mode → Label
level_for label Append = least
level_for None x = least
level_for (Some l) Execute = l
level_for (Some l) Read = l
level_for (Some l) Write = l

-- None of some requests makes an object or takes one away, in the state that those before it lead to. (own)
abbrev pub LeavesObjects : State → List Request → Type 0
LeavesObjects v [] = Unit {0}
LeavesObjects v (r ∷ requests) =
    ((o : ℕ) → is_active (after v r) o ≡ is_active v o) × LeavesObjects (after v r) requests

-- Requests that were added to others lead from one state to another: each is an actor's, is answered yes, and leaves the
-- objects that there are. The state that they lead to is like the first one, secure, with labels within the bounds, and
-- this holds of it. (own)
pub record LeadsTo (acts : ℕ → Bool) (v w : State) (old new : List Request) (P : State → Type 0) : Type 0 where
  pub requests : List Request
  pub added : new ≡ old ++ requests
  pub granted : AreGranted v requests
  pub of_actors : AreOfActors acts requests
  pub objects : LeavesObjects v requests
  pub last : run v requests ≡ w
  pub alike : Alike acts v w
  pub secure : IsSecure w
  pub within : HasLabelsWithin w
  pub now : P w
