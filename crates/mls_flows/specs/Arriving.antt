-- Where content arrives over all futures: the journals of some subjects that go on from a state.
use Rattle.std.specs.Prelude.{◌≡◌, ℕ, Bool, IsTrue, List, [], ◌∷◌, ◌++◌, Some}
use Rattle.std.specs.FinMap as map
use Rattle.std.specs.FinSet as set
use Rattle.mls_labels.specs.Label.{Label, has_label}
use Rattle.mls_tables.specs.Mode.{observes, alters}
use Rattle.mls_tables.specs.declared.mode.Mode.{Mode}
use Rattle.mls_requests.specs.declared.request.Request.{Request}
use Rattle.mls_requests.specs.declared.entry.Entry.{Entry}
use Rattle.mls_state.specs.State.{State, is_active}
use Rattle.mls_rules.specs.Rules.{after}
use Rattle.mls_monitor.specs.Journal.{fold, IsLegal}
use Rattle.mls_laws.specs.Journals.{StaysActive}
use Rattle.mls_futures.specs.Futures.{IsByActors, AreReleases, HoldsNothing}
use Rattle.mls_flows.specs.declared.place.Place.{Place}
use Rattle.mls_flows.specs.declared.place.Place.TheVariants.{Subject, Object}

-- Content that some places have is in one of them, or where actors bring it by the accesses that they hold at once: an
-- actor has what is in an object that it observes, and an object that it alters has what it has. (own)
pub data Spreads (v : State) (acts : ℕ → Bool) (has : Place → Type 0) : Place → Type 0 where
  was : (p : Place) → has p → Spreads v acts has p
  saw : (s o : ℕ) (x : Mode) → IsTrue (observes x) → IsTrue (acts s) → IsTrue (set.contains v.accesses (s, o, x))
      → Spreads v acts has (Object o) → Spreads v acts has (Subject s)
  left : (s o : ℕ) (x : Mode) → IsTrue (alters x) → IsTrue (acts s) → IsTrue (set.contains v.accesses (s, o, x))
      → Spreads v acts has (Subject s) → Spreads v acts has (Object o)

-- What a place has over a request: a subject remembers it, and an object has it as long as it is there. An object of
-- the same number that is made later is another one. (own)
abbrev pub Keeps : State → (Place → Type 0) → Place → Type 0
Keeps w has (Subject s) = has (Subject s)
Keeps w has (Object o) = has (Object o) × IsTrue (is_active w o)

-- Content that some places have at first is in this one after a journal. (own)
abbrev pub IsCarried : State → (ℕ → Bool) → (Place → Type 0) → List Entry → Place → Type 0
IsCarried v acts has [] p = Spreads v acts has p
IsCarried v acts has (e ∷ entries) p =
    IsCarried (after v e.request) acts (Keeps (after v e.request) (Spreads v acts has)) entries p

-- A place is there all along a journal: a subject always, an object where it is active all along. (own)
abbrev pub StaysThere : State → List Entry → Place → Type 0
StaysThere v entries (Subject s) = Unit {0}
StaysThere v entries (Object o) = StaysActive v entries o

-- A place is this one. (own)
abbrev pub IsAt : Place → Place → Type 0
IsAt q p = p ≡ q

-- It could come about that the content of an object is in a place: some legal journal goes on from the state, first
-- with releases of all that is held, by whomever, then with requests of actors alone. At first the object alone has the
-- content, and in the end the place has it, which is there all along. (own)
pub record CouldArrive (v : State) (acts : ℕ → Bool) (from : ℕ) (to : Place) : Type 0 where
  pub releases : List Entry
  pub requests : List Entry
  pub legal : IsLegal v (releases ++ requests)
  pub releasing : AreReleases releases
  pub released : HoldsNothing (fold v releases)
  pub by_actors : IsByActors acts requests
  pub stays : StaysThere v (releases ++ requests) to
  pub carried : IsCarried v acts (IsAt (Object from)) (releases ++ requests) to

-- Each subject's integrity label is within the bounds. (own)
abbrev pub HasIntegrityWithin : State → Type 0
HasIntegrityWithin v = (s : ℕ) (l : Label) → map.get v.subject_integrity s ≡ Some l → IsTrue (has_label v.integrity l)
