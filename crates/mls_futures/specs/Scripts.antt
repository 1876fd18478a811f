-- Scripts that bring an access about.
use Rattle.std.specs.Prelude.{◌≡◌, ◌⊎◌, ℕ, Bool, true, IsTrue, List, [], ◌∷◌, ◌++◌}
use Rattle.std.specs.FinMap as map
use Rattle.std.specs.FinSet as set
use Rattle.mls_tables.specs.Triples.{Triple, is_triple}
use Rattle.mls_tables.specs.declared.mode.Mode.{Mode}
use Rattle.mls_requests.specs.declared.action.Action.TheVariants.{Release}
use Rattle.mls_requests.specs.declared.request.Request.{Request}
use Rattle.mls_requests.specs.declared.reply.Reply.TheVariants.{Yes}
use Rattle.mls_state.specs.State.{State, is_active}
use Rattle.mls_rules.specs.Rules.{reply, after}
use Rattle.mls_laws.specs.Journals.{run}
use Rattle.mls_futures.specs.Closure.{HasTrusted}
use Rattle.mls_futures.specs.Futures.{HoldsNothing}

-- Each of some requests is answered yes, in the state that those before it lead to. (own)
abbrev pub AreGranted : State → List Request → Type 0
AreGranted v [] = Unit {0}
AreGranted v (r ∷ requests) = (reply v r ≡ Yes) × AreGranted (after v r) requests

-- Each of some requests is an actor's. (own)
abbrev pub AreOfActors : (ℕ → Bool) → List Request → Type 0
AreOfActors acts [] = Unit {0}
AreOfActors acts (r ∷ requests) = IsTrue (acts r.subject) × AreOfActors acts requests

-- Each of some requests is to release something, of whatever subject. (own)
abbrev pub AreToRelease : List Request → Type 0
AreToRelease [] = Unit {0}
AreToRelease (r ∷ requests) = ((x : Mode) × (o : ℕ) × (r.action ≡ Release x o)) × AreToRelease requests

-- A script brings an access about: each of its requests is answered yes; first they release all that is held, by
-- whomever, and the others are actors'; and in the end just that access is held. (own)
pub record BringsAbout (v : State) (acts : ℕ → Bool) (t : Triple) (script : List Request) : Type 0 where
  pub releases : List Request
  pub requests : List Request
  pub both : script ≡ releases ++ requests
  pub granted : AreGranted v script
  pub releasing : AreToRelease releases
  pub released : HoldsNothing (run v releases)
  pub of_actors : AreOfActors acts requests
  pub held : (u : Triple) → set.contains (run v script).accesses u ≡ is_triple u t

-- A state is like another one, but for accesses, current labels, permissions that joined, and the labels of objects
-- where an actor is trusted. (own)
pub record Alike (acts : ℕ → Bool) (v w : State) : Type 0 where
  pub maximum : w.maximum ≡ v.maximum
  pub subject_integrity : w.subject_integrity ≡ v.subject_integrity
  pub trusted : w.trusted ≡ v.trusted
  pub integrity : w.object_integrity ≡ v.object_integrity
  pub parent : w.parent ≡ v.parent
  pub security : w.security ≡ v.security
  pub active : (o : ℕ) → is_active w o ≡ is_active v o
  pub label : (o : ℕ) → (map.get w.object_label o ≡ map.get v.object_label o) ⊎ HasTrusted v acts
  pub matrix : (t : Triple) → set.contains v.matrix t ≡ true → set.contains w.matrix t ≡ true
