-- Scripts that bring an access about, of which no request behind the releases can be left out.
use Rattle.std.specs.Prelude.{◌≡◌, ℕ, Bool, true, List}
use Rattle.mls_tables.specs.Triples.{Triple}
use Rattle.mls_requests.specs.declared.request.Request.{Request}
use Rattle.mls_state.specs.State.{State}
use Rattle.mls_laws.specs.Journals.{run}
use Rattle.mls_futures.specs.Futures.{HoldsNothing}
use Rattle.mls_futures.specs.Scripts.{AreGranted, AreOfActors, AreToRelease}
use Rattle.mls_ways.specs.Lean.{brings, IsLean}

-- Requests of actors bring an access about, and none of them can be left out alone. (own)
pub record IsLeanScript (v : State) (acts : ℕ → Bool) (t : Triple) (requests : List Request) : Type 0 where
  pub of_actors : AreOfActors acts requests
  pub does : brings v t requests ≡ true
  pub is_lean : IsLean v t requests

-- Releases of all that is held, by whomever, each answered yes, and then requests of actors bring an access about, and
-- none of these can be left out alone. (own)
pub record BringsLeanly (v : State) (acts : ℕ → Bool) (t : Triple) (releases requests : List Request) : Type 0 where
  pub releasing : AreToRelease releases
  pub granted : AreGranted v releases
  pub released : HoldsNothing (run v releases)
  pub behind : IsLeanScript (run v releases) acts t requests
