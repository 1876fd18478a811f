-- What becomes of accesses over all futures.
use Rattle.std.specs.Prelude.{◌≡◌, ℕ, Bool, false, IsTrue, List, [], ◌∷◌, map, Option, Some, None}
use Rattle.std.specs.FinSet as set
use Rattle.std.specs.List.{flat_map, range_with_len}
use Rattle.mls_tables.specs.Triples.{Triple}
use Rattle.mls_tables.specs.declared.mode.Mode.{Mode}
use Rattle.mls_tables.specs.declared.mode.Mode.TheVariants.{Execute, Read, Append, Write}
use Rattle.mls_requests.specs.declared.entry.Entry.{Entry}
use Rattle.mls_state.specs.State.{State}
use Rattle.mls_monitor.specs.Journal.{fold}
use Rattle.mls_laws.specs.Journals.{StaysActive}
use Rattle.mls_futures.specs.Futures.{IsByActors, HasLabelsWithin, CouldCome}
use Rattle.mls_could.specs.declared.foreseen.Foreseen.{Foreseen}
use Rattle.mls_could.specs.declared.future.Future.{Future}
use Rattle.mls_could.specs.declared.future.Future.TheVariants.{Held, Could, Never}

-- An access comes about in no future: neither once all that is held has been released, nor, where its subject acts, by
-- any journal of requests of actors without that, along which the object is there. (own)
pub record NeverComes (v : State) (acts : ℕ → Bool) (t : Triple) : Type 0 where
  pub released : CouldCome v acts t.0 t.1 t.2 → ⊥
  pub held : (entries : List Entry) → IsByActors acts entries → StaysActive v entries t.1 → IsTrue (acts t.0)
      → set.contains (fold v entries).accesses t ≡ false

-- What is told of an access is so: it is held; or it isn't, and could come about; or it isn't, and never comes about.
-- That it could supposes that the labels are within the bounds, as those of all states are to which journals lead.
-- (own)
abbrev pub IsSo : State → (ℕ → Bool) → Triple → Future → Type 0
IsSo v acts t Held = IsTrue (set.contains v.accesses t)
IsSo v acts t Could = (set.contains v.accesses t ≡ false) × (HasLabelsWithin v → CouldCome v acts t.0 t.1 t.2)
IsSo v acts t Never = (set.contains v.accesses t ≡ false) × NeverComes v acts t

-- The access to an object of which a row tells. (own)
abbrev pub access_of : ℕ → Foreseen → Triple
access_of o f = (f.subject, o, f.mode)

-- What a row tells of the access to an object is so. (own)
abbrev pub IsForeseen : State → (ℕ → Bool) → ℕ → Foreseen → Type 0
IsForeseen v acts o f = IsSo v acts (access_of o f) f.future

-- The modes that are asked for: one, or all in their order. (own)
abbrev pub modes_asked : Option Mode → List Mode
modes_asked (Some x) = x ∷ []
modes_asked None = Execute ∷ Read ∷ Append ∷ Write ∷ []

-- A subject with each mode that is asked for. (own)
abbrev pub pairs_with : Option Mode → ℕ → List (ℕ × Mode)
pairs_with mode s = map (λ x. (s, x)) (modes_asked mode)

-- Each subject, of so many, with each mode that is asked for, in their order. (own)
abbrev pub all_pairs : Option Mode → ℕ → List (ℕ × Mode)
all_pairs mode count = flat_map (pairs_with mode) (range_with_len 0 count)

-- The subject and the mode of each row. (own)
abbrev pub pairs_of : List Foreseen → List (ℕ × Mode)
pairs_of found = map (λ f. (f.subject, f.mode)) found
