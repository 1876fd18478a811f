-- The gate's rule: what holds between any two atomic steps, whichever threads step.
use Rattle.std.specs.Prelude.{◌≡◌, ◌≢◌, ◌⊎◌, ℕ, ◌+◌, ◌-◌, ◌*◌, ◌<◌, ◌≤◌, List, [], ◌∷◌, ◌++◌, length, drop, slice_index}
use Rattle.std.specs.Prelude.{Option, Some, None, replicate, true}
use mathlib.Core.List.{IsPrefix}
use mathlib.Core.Option.{some}
use mathlib.Core.Option as maybe
use lib.ListN.{get_elem?}
use Rattle.atomic_table.specs.Table.{State as TableState}
use Rattle.mls_state.specs.State.{State}
use Rattle.mls_requests.specs.declared.entry.Entry.{Entry}
use Rattle.mls_sessions.specs.Journals.{Charter}
use Rattle.mls_turns.specs.Journals.{Journal, journal, Stands}
use Rattle.mls_monitor.specs.Entries.{of_session, AllBelow}
use Rattle.mls_monitor.specs.Journal.{fold}
use Rattle.mls_sessions.specs.Cells.{Tells, Agrees}
use Rattle.mls_sessions.specs.Changes.{changes}
use Rattle.mls_sessions.specs.declared.gate_table.Note.{Note}
use Rattle.mls_sessions.specs.declared.limits.TheConstants.{CHANGES, FIRST}
use Rattle.mls_sessions.specs.declared.gate_table.Stretch.{Stretch}
use Rattle.mls_sessions.specs.declared.gate_table.Member.{Member}
use Rattle.mls_sessions.specs.declared.gate_table.View.{View}
use Rattle.mls_sessions.specs.declared.gate_table.View.TheVariants.{Spent, Starting, Filling, Giving, Sessions, Holding}

-- The state that the office's monitor starts with. (own)
abbrev pub begun : Charter → State
begun c = c.start

-- The journal when the office was opened. (own)
abbrev pub base : Charter → List Entry
base c = c.entries

-- How many entries that journal has. (own)
abbrev pub base_length : Charter → ℕ
base_length c = length (base c)

-- So many entries of the journal are forgotten, and these were added since the office was opened. (own)
abbrev pub stretch : ℕ → List Entry → Stretch
stretch n later = record { forgotten = n; later = later }

-- The journal when the office was opened. (own)
abbrev pub opened : Charter → Stretch
opened c = stretch c.forgotten []

-- The same, and these entries more. (own)
abbrev pub with_more : Stretch → List Entry → Stretch
with_more t added = stretch t.forgotten (t.later ++ added)

-- The journal of which so much is forgotten, and to which that was added since the office was opened. (own)
abbrev pub present : Charter → Stretch → Journal
present c t = journal (begun c) t.forgotten (base c ++ t.later)

-- The entries of a journal that were added since the office was opened. (own)
abbrev pub news : Charter → Journal → List Entry
news c j = drop (base_length c) j.entries

-- How much of a journal is forgotten, and its entries that were added since the office was opened. (own)
abbrev pub stretch_of : Charter → Journal → Stretch
stretch_of c j = stretch j.forgotten (news c j)

-- A session with the number k, which knows that so much of the journal is forgotten, and has seen the entries that were
-- added since the office was opened. (own)
abbrev pub member : ℕ → Stretch → Member
member k t = record { number = k; forgotten = t.forgotten; later = t.later }

-- So many entries may be forgotten: no fewer than when the office was opened, and just as many where its journal lasts.
-- (own)
pub record MayForget (c : Charter) (n : ℕ) : Type 0 where
  pub more : c.forgotten ≤ n
  pub same : c.lasts ≡ true → n ≡ c.forgotten

-- The gate's word while session k holds it and nobody sleeps. (own)
abbrev pub word_of : ℕ → ℕ
word_of k = 2 * (k + 1)

-- The word names session k: less the mark, which is set where someone may sleep, it is the word of k. (own)
abbrev pub Names : ℕ → ℕ → Type 0
Names word k = (word ≡ word_of k) ⊎ (word ≡ word_of k + 1)

-- No session of the list has the number k. (own)
abbrev pub IsNew : ℕ → List Member → Type 0
IsNew k [] = Unit {0}
IsNew k (m ∷ members) = (m.number ≢ k) × IsNew k members

-- What holds of one seat: `now` is how much of the journal is forgotten and what was added to it since the office was
-- opened, and `owner` tells which seat a number belongs to.
module _ (key : Charter) (now : Stretch) (owner : ℕ → ℕ) (seat : ℕ) where
  -- A session of this seat: its history is a prefix of the present journal (clause 3), the own part of the present
  -- journal is that of its history (clause 4), and at least so much is forgotten as it knows (clause 8). (own)
  pub record IsMember (m : Member) : Type 0 where
    pub known : m.number < key.count
    pub here : owner m.number ≡ seat
    pub front : IsPrefix m.later now.later
    pub own : of_session m.number m.later ≡ of_session m.number now.later
    pub less : m.forgotten ≤ now.forgotten

  -- The sessions of this seat, no two with one number (clauses 4 and 5). (own)
  abbrev pub Fits : List Member → Type 0
  Fits [] = Unit {0}
  Fits (m ∷ members) = IsMember m × IsNew m.number members × Fits members

  -- The last g numbers are this seat's to give, and have no entry (clause 4). (own)
  abbrev pub IsUnused : ℕ → Type 0
  IsUnused g = (k : ℕ) → key.count ≤ k + g → k < key.count → (owner k ≡ seat)
      × (of_session k now.later ≡ [])

  -- What a seat knows, while this seat holds the gate and the word is that. A holder's view tells which journal it
  -- took, which is the present one, and the word names its session (clause 1). A spent view knows nothing (clause 5).
  -- (own)
  abbrev pub Knows : ℕ → ℕ → View → Type 0
  Knows holder word Spent = Unit {0}
  Knows holder word (Starting c) = ⊥
  Knows holder word (Filling c) = ⊥
  Knows holder word (Giving c g) = (c ≡ key) × (g ≤ key.count) × IsUnused g
  Knows holder word (Sessions c members) = (c ≡ key) × Fits members
  Knows holder word (Holding c m taken notes) = (c ≡ key) × Names word m.number × (seat ≡ holder) × (taken ≡ now)
      × IsMember m

-- The rule once the monitor was put in. Clause 1: the word is 0 and the monitor with the present journal is at home; or
-- one seat holds, and the word names its session. Clause 2: the present journal is legal from the office's start,
-- begins with the journal when the office was opened, and its later entries have session numbers less than n. Clauses 3
-- to 5 are what each seat knows. Clause 6: each word of accesses is blank or tells of the state that the present
-- journal leads to, and is what the holder noted of it. Clause 7: the count of changes is that of the later entries.
-- Clause 8: so many entries are forgotten as may be. (own)
pub record Running (key : Charter) (s : TableState (Option Journal) View) : Type 0 where
  pub now : Stretch
  pub owner : ℕ → ℕ
  pub holder : ℕ
  pub notes : List Note
  pub wide : length s.words ≡ key.cells + FIRST
  pub deep : length s.homes ≡ 1
  pub legal : Stands (begun key) (base key ++ now.later)
  pub theirs : AllBelow key.count now.later
  pub gone : MayForget key now.forgotten
  pub at_home : slice_index s.words 0 ≡ 0 → get_elem? s.homes 0 ≡ some (some (Some (present key now)))
  pub away : slice_index s.words 0 ≢ 0 → (m : Member) × (get_elem? s.views holder ≡ some (Holding key m now notes))
      × Names (slice_index s.words 0) m.number
  pub each_seat : (j : ℕ) (v : View) → get_elem? s.views j ≡ some v
      → Knows key now owner j holder (slice_index s.words 0) v
  pub tells : (i : ℕ) → i < key.cells → Tells (fold (begun key) (base key ++ now.later)) i
      (slice_index s.words (i + FIRST))
  pub noted : (i : ℕ) → i < key.cells → Agrees notes i (slice_index s.words (i + FIRST))
  pub counted : slice_index s.words CHANGES ≡ changes now.later

-- Before the monitor was put in: the gate is free, the slot empty, and all words of accesses are blank. (own)
abbrev pub IsEmpty : Charter → TableState (Option Journal) View → Type 0
IsEmpty key s =
    s ≡ record { words = 0 ∷ replicate (key.cells + (FIRST - 1)) 0; homes = some None ∷ []; views = Starting key ∷ [] }

-- The first seat has taken the empty slot. (own)
abbrev pub IsFilling : Charter → TableState (Option Journal) View → Type 0
IsFilling key s =
    s ≡ record { words = 2 ∷ replicate (key.cells + (FIRST - 1)) 0; homes = maybe.none ∷ []; views = Filling key ∷ [] }

-- The gate's rule. (own)
abbrev pub Gated : Charter → TableState (Option Journal) View → Type 0
Gated key s = IsEmpty key s ⊎ (IsFilling key s ⊎ Running key s)
