-- Scripts by which content flows.
use Rattle.std.specs.Prelude.{◌≡◌, ℕ, Bool, List}
use Rattle.mls_requests.specs.declared.request.Request.{Request}
use Rattle.mls_state.specs.State.{State}
use Rattle.mls_laws.specs.Journals.{run}
use Rattle.mls_futures.specs.Futures.{HoldsNothing}
use Rattle.mls_futures.specs.Scripts.{AreGranted, AreToRelease}
use Rattle.mls_flows.specs.Arriving.{IsAt}
use Rattle.mls_flows.specs.Ways.{Way, requests_on, Along, Grown}
use Rattle.mls_flows.specs.declared.place.Place.{Place}

-- Releases of all that is held, by whomever, each answered yes, and then requests of actors, each granted, none of which
-- takes an object away, carry content from one place to another one. They lead to a state that has all that there was
-- behind the releases, and in which nobody holds anything. (own)
pub record CarriesContent (v : State) (acts : ℕ → Bool) (q p : Place) (releases requests : List Request) : Type 0 where
  pub releasing : AreToRelease releases
  pub granted : AreGranted v releases
  pub released : HoldsNothing (run v releases)
  pub last : State
  pub way : Way acts (run v releases) last
  pub behind : requests ≡ requests_on acts (run v releases) last way
  pub along : Along acts (run v releases) last way (IsAt q) p
  pub grown : Grown acts (run v releases) last
  pub idle : HoldsNothing last
