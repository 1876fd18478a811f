-- What a run of feeds leaves.
use Rattle.std.specs.Prelude.{◌≡◌, ℕ, List, [], ◌∷◌, length, drop}
use mathlib.Core.List.{IsPrefix}
use Rattle.mls_state.specs.State.{State}
use Rattle.mls_requests.specs.declared.entry.Entry.{Entry}
use Rattle.mls_monitor.specs.Journal.{Monitor}
use Rattle.mls_monitor.specs.Entries.{AllBelow}
use Rattle.mls_sessions.specs.Sessions.{Office, Session, IsOf, number_of}

-- The same sessions, number by number, each of the office. (own)
abbrev pub Returned : Office → List Session → List Session → Type 0
Returned o [] [] = Unit {0}
Returned o [] (t ∷ ts) = ⊥
Returned o (s ∷ ss) [] = ⊥
Returned o (s ∷ ss) (t ∷ ts) = IsOf o t × (number_of t.view ≡ number_of s.view) × Returned o ss ts

-- A monitor that was handed in with this start and journal, of which so much was forgotten: it has that start, its
-- journal begins with that one and goes on with entries of the first n sessions, and no more of it is forgotten. (own)
pub record Grew (begun : State) (journal : List Entry) (gone n : ℕ) (new : Monitor) : Type 0 where
  pub start : new.start ≡ begun
  pub forgotten : new.forgotten ≡ gone
  pub begins : IsPrefix journal new.entries
  pub below : AllBelow n (drop (length journal) new.entries)
