-- Releases of accesses.
use Rattle.std.specs.Prelude.{◌≡◌, ℕ, Bool, true, false, IsTrue, List, ◌++◌}
use Rattle.std.specs.FinSet as set
use Rattle.mls_tables.specs.Triples.{Triple, TripleSet}
use Rattle.mls_tables.specs.declared.mode.Mode.{Mode}
use Rattle.mls_requests.specs.declared.request.Request.{Request}
use Rattle.mls_state.specs.State.{State}
use Rattle.mls_laws.specs.Journals.{run}
use Rattle.mls_futures.specs.Scripts.{AreGranted, AreToRelease}

-- A subject holds nothing of an object. (own)
abbrev pub IsFree : State → ℕ → ℕ → Type 0
IsFree v s o = (x : Mode) → set.contains v.accesses (s, o, x) ≡ false

-- Requests that were added to others release accesses and lead from one state to another: each is answered yes, no
-- access joins, and nothing but accesses changes. (own)
pub record Releases (v w : State) (old new : List Request) : Type 0 where
  pub requests : List Request
  pub added : new ≡ old ++ requests
  pub granted : AreGranted v requests
  pub releasing : AreToRelease requests
  pub last : run v requests ≡ w
  pub accesses : TripleSet
  pub same : w ≡ record v { accesses = accesses }
  pub less : (t : Triple) → IsTrue (set.contains w.accesses t) → IsTrue (set.contains v.accesses t)
