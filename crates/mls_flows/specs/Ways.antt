-- Ways on: requests of actors that are granted one after the other and delete nothing, and the content that they carry.
use Rattle.std.specs.Prelude.{◌≡◌, ◌⊎◌, ℕ, Bool, IsTrue, List, [], ◌∷◌, Some}
use Rattle.std.specs.FinMap as map
use Rattle.std.specs.FinSet as set
use Rattle.mls_tables.specs.Triples.{Triple}
use Rattle.mls_requests.specs.declared.request.Request.{Request}
use Rattle.mls_state.specs.State.{State, is_active, is_above}
use Rattle.mls_rules.specs.Rules.{reply, after}
use Rattle.mls_laws.specs.Journals.{is_grant}
use Rattle.mls_futures.specs.Closure.{HasTrusted}
use Rattle.mls_flows.specs.Arriving.{Spreads, Keeps}
use Rattle.mls_flows.specs.declared.place.Place.{Place}

-- A way from a state to another one: requests of actors, each granted in the state that those before it lead to, of
-- which none takes an object away. (own)
pub data Way (acts : ℕ → Bool) : State → State → Type 0 where
  ends : {v : State} → Way acts v v
  goes : {v w : State} (r : Request) → IsTrue (acts r.subject) → IsTrue (is_grant (reply v r))
      → ((o : ℕ) → IsTrue (is_active v o) → IsTrue (is_active (after v r) o)) → Way acts (after v r) w → Way acts v w

-- Its requests. (own)
abbrev pub requests_on : (acts : ℕ → Bool) (v w : State) → Way acts v w → List Request
requests_on acts v w ends = []
requests_on acts v w (goes r actor grant keeps rest) = r ∷ requests_on acts (after v r) w rest

-- Content that some places have is carried along a way to a place. (own)
abbrev pub Along : (acts : ℕ → Bool) (v w : State) → Way acts v w → (Place → Type 0) → Place → Type 0
Along acts v w ends has p = Spreads v acts has p
Along acts v w (goes r actor grant keeps rest) has p =
    Along acts (after v r) w rest (Keeps (after v r) (Spreads v acts has)) p

-- A later state has all that there was: the same subjects, the objects at the same places with the same integrity, and
-- with their labels, unless an actor is trusted; and all permissions. (own)
pub record Grown (acts : ℕ → Bool) (v w : State) : Type 0 where
  pub maximum : w.maximum ≡ v.maximum
  pub subject_integrity : w.subject_integrity ≡ v.subject_integrity
  pub trusted : w.trusted ≡ v.trusted
  pub bounds : w.integrity ≡ v.integrity
  pub active : (o : ℕ) → IsTrue (is_active v o) → IsTrue (is_active w o)
  pub integrity : (o : ℕ) → IsTrue (is_active v o) → map.get w.object_integrity o ≡ map.get v.object_integrity o
  pub parent : (o : ℕ) → IsTrue (is_active v o) → map.get w.parent o ≡ map.get v.parent o
  pub label : (o : ℕ) → IsTrue (is_active v o)
      → (map.get w.object_label o ≡ map.get v.object_label o) ⊎ HasTrusted v acts
  pub matrix : (t : Triple) → IsTrue (set.contains v.matrix t) → IsTrue (set.contains w.matrix t)

-- An object is below another one, and through it a subject could hand content to another one, as far as labels go. (own)
pub record IsBetween (acts : ℕ → Bool) (s t n p : ℕ) (w : State) : Type 0 where
  pub active : IsTrue (is_active w n)
  pub parent : map.get w.parent n ≡ Some p
  pub above : IsTrue (is_above (map.get w.subject_integrity s) (map.get w.object_integrity n))
  pub below : IsTrue (is_above (map.get w.object_integrity n) (map.get w.subject_integrity t))
  pub cleared : IsTrue (is_above (map.get w.maximum t) (map.get w.object_label n)) ⊎ HasTrusted w acts
