-- What could come about over all futures: the journals of some subjects that go on from a state.
use Rattle.std.specs.Prelude.{◌≡◌, ℕ, Bool, false, IsTrue, List, ◌++◌, slice_get, Some}
use Rattle.std.specs.FinMap as map
use Rattle.std.specs.FinSet as set
use Rattle.mls_labels.specs.Label.{Label, has_label}
use Rattle.mls_tables.specs.Triples.{Triple}
use Rattle.mls_tables.specs.declared.mode.Mode.{Mode}
use Rattle.mls_requests.specs.declared.action.Action.TheVariants.{Release}
use Rattle.mls_requests.specs.declared.entry.Entry.{Entry}
use Rattle.mls_state.specs.State.{State}
use Rattle.mls_monitor.specs.Journal.{fold, IsLegal}
use Rattle.mls_laws.specs.Journals.{StaysActive}

-- Each entry of a journal is a request of an actor. (own)
abbrev pub IsByActors : (ℕ → Bool) → List Entry → Type 0
IsByActors acts entries = (n : ℕ) (e : Entry) → slice_get entries n ≡ Some e → IsTrue (acts e.request.subject)

-- Each entry of a journal is a request to release something, of whatever subject. (own)
abbrev pub AreReleases : List Entry → Type 0
AreReleases entries = (n : ℕ) (e : Entry) → slice_get entries n ≡ Some e
    → (x : Mode) × (o : ℕ) × (e.request.action ≡ Release x o)

-- Each object's security label is within the bounds. (own)
abbrev pub HasLabelsWithin : State → Type 0
HasLabelsWithin v = (o : ℕ) (l : Label) → map.get v.object_label o ≡ Some l → IsTrue (has_label v.security l)

-- Nobody holds anything. (own)
abbrev pub HoldsNothing : State → Type 0
HoldsNothing v = (t : Triple) → set.contains v.accesses t ≡ false

-- It could come about that a subject holds an access: some legal journal goes on from the state, first with releases of
-- all that is held, by whomever, then with requests of actors alone. The object is there all along, and in the end the
-- subject holds the access. (own)
pub record CouldCome (v : State) (acts : ℕ → Bool) (s o : ℕ) (x : Mode) : Type 0 where
  pub releases : List Entry
  pub requests : List Entry
  pub legal : IsLegal v (releases ++ requests)
  pub releasing : AreReleases releases
  pub released : HoldsNothing (fold v releases)
  pub by_actors : IsByActors acts requests
  pub stays : StaysActive v (releases ++ requests) o
  pub held : IsTrue (set.contains (fold v (releases ++ requests)).accesses (s, o, x))
