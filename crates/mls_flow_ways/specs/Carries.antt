-- Requests that carry content from one place to another one, one after the other.
use Rattle.std.specs.Prelude.{◌≡◌, ℕ, Bool, true, false, not, List, [], ◌∷◌, ◌++◌, if◌then◌else◌}
use Rattle.mls_tables.specs.declared.mode.Mode.TheVariants.{Append, Read, Write}
use Rattle.mls_requests.specs.declared.request.Request.{Request}
use Rattle.mls_state.specs.State.{State}
use Rattle.mls_state.specs.Properties.{IsSecure}
use Rattle.mls_futures.specs.Closure.{CouldGet}
use Rattle.mls_futures.specs.Futures.{HasLabelsWithin, HoldsNothing}
use Rattle.mls_ways.specs.Ways.{HoldsOnly}
use Rattle.mls_flows.specs.Arriving.{IsAt}
use Rattle.mls_flows.specs.Ways.{Way, requests_on, Along, Grown, IsBetween}
use Rattle.mls_flows.specs.declared.place.Place.{Place}
use Rattle.mls_paths.specs.declared.reached.Hand.{Hand}
use Rattle.mls_paths.specs.declared.reached.Hand.TheVariants.{By, Made}
use Rattle.mls_paths.specs.declared.reached.Hop.{Hop}

-- Requests that were added to others carry content from one place to another one, and lead from one state to another:
-- they are a way there. The state that they lead to has all that there was, is secure, with labels within the bounds,
-- and this holds of it. (own)
pub record CarriesTo (acts : ℕ → Bool) (v w : State) (old new : List Request) (q p : Place) (P : State → Type 0)
    : Type 0 where
  pub way : Way acts v w
  pub added : new ≡ old ++ requests_on acts v w way
  pub grown : Grown acts v w
  pub secure : IsSecure w
  pub within : HasLabelsWithin w
  pub along : Along acts v w way (IsAt q) p
  pub now : P w

-- Nobody holds anything, and this is the next object's number. (own)
abbrev pub IsIdleAt : ℕ → State → Type 0
IsIdleAt n w = HoldsNothing w × (w.next ≡ n)

-- Nobody holds anything; and behind a hand by which no object is made, this is the next object's number. (own)
abbrev pub StaysIdle : Hand → ℕ → State → Type 0
StaysIdle (By x) n w = IsIdleAt n w
StaysIdle (Made maker parent) n w = HoldsNothing w

-- Just write of an object is held, below which lies another one, through which a subject could hand content to another
-- one, as far as labels go. (own)
abbrev pub IsBegun : (ℕ → Bool) → ℕ → ℕ → ℕ → ℕ → ℕ → State → Type 0
IsBegun acts s t maker parent n w = HoldsOnly (maker, parent, Write) w × IsBetween acts s t n parent w

-- Nobody holds anything, one subject could get append of an object, and another one read. (own)
pub record IsMadeFor (acts : ℕ → Bool) (s t n : ℕ) (w : State) : Type 0 where
  pub nothing : HoldsNothing w
  pub appends : CouldGet w acts s n Append
  pub reads : CouldGet w acts t n Read

-- Whether an object is made for a hand. (own)
abbrev pub is_made : Hand → Bool
is_made (By x) = false
is_made (Made maker parent) = true

-- Whether an object is made on a way. (own)
abbrev pub makes : List Hop → Bool
makes [] = false
makes (hop ∷ hops) = if is_made hop.hand then true else makes hops

-- Whether no more than one is. (own)
abbrev pub makes_once : List Hop → Bool
makes_once [] = true
makes_once (hop ∷ hops) = if is_made hop.hand then not (makes hops) else makes_once hops
