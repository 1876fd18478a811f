-- Lists that lie in one piece of memory, each in a stretch of its own.
use Rattle.std.specs.Prelude.{◌≡◌, ℕ, ◌+◌, ◌<◌, ◌≤◌, ◌⊎◌, List, ◌++◌, length, take, drop, slice_index_or}
use Rattle.mls_tables.specs.declared.span.Span.{Span}

-- The list that lies in a stretch. (own)
abbrev pub list_at : {X : Type 0} → List X → Span → List X
list_at store s = take s.len (drop s.start store)

-- A stretch of no room. (own)
abbrev pub nowhere : Span
nowhere = record { start = 0; len = 0; room = 0 }

-- No place is in both stretches. (own)
abbrev pub AreApart : Span → Span → Type 0
AreApart s t = (s.start + s.room ≤ t.start) ⊎ (t.start + t.room ≤ s.start)

-- Each list is within its stretch, each stretch within the memory, and no two have a place in common. (own)
pub record IsLaidOut {X : Type 0} (spans : List Span) (store : List X) : Type 0 where
  pub short : (i : ℕ) → i < length spans → (slice_index_or spans i nowhere).len ≤ (slice_index_or spans i nowhere).room
  pub within : (i : ℕ) → i < length spans
      → (slice_index_or spans i nowhere).start + (slice_index_or spans i nowhere).room ≤ length store
  pub apart : (i j : ℕ) → i < j → j < length spans
      → AreApart (slice_index_or spans i nowhere) (slice_index_or spans j nowhere)

-- A stretch with room for one more has the same list: it is the old one, or a new one behind the old memory. (own)
pub record FindsRoom {X : Type 0} (old new : List X) (s t : Span) : Type 0 where
  pub len : t.len ≡ s.len
  pub room : t.len < t.room
  pub kept : (more : List X) × (new ≡ old ++ more)
  pub list : list_at new t ≡ list_at old s
  pub within : t.start + t.room ≤ length new
  pub place : (t ≡ s) ⊎ (length old ≤ t.start)
