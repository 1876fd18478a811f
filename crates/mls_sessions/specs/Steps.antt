-- What each kind of atomic step tells the seat that makes it, and which views it may change. A seat is its view and
-- what it holds of the slot. Parking and waking change no view.
use Rattle.std.specs.Prelude.{◌≡◌, ◌≢◌, ℕ, ◌-◌, ◌≤◌, if◌then◌else◌, nat_lt, max, List, [], ◌∷◌, ◌++◌, length, Option, Some}
use Rattle.std.specs.Prelude.{None}
use mathlib.Core.List.{IsPrefix}
use Rattle.atomic_table.specs.Table.{Me, Step}
use Rattle.mls_requests.specs.declared.entry.Entry.{Entry}
use Rattle.mls_monitor.specs.Journal.{fold}
use Rattle.mls_sessions.specs.Cells.{Tells, Agrees, note}
use Rattle.mls_sessions.specs.Changes.{changes}
use Rattle.mls_sessions.specs.declared.gate_table.Note.{Note}
use Rattle.mls_sessions.specs.declared.limits.TheConstants.{FIRST}
use Rattle.mls_sessions.specs.Journals.{Charter}
use Rattle.mls_turns.specs.Journals.{Journal, Stands}
use Rattle.mls_monitor.specs.Entries.{of_session}
use Rattle.mls_sessions.specs.Rule.{member, begun, base, stretch, opened, present, stretch_of}
use Rattle.mls_sessions.specs.declared.gate_table.Stretch.{Stretch}
use Rattle.mls_sessions.specs.declared.gate_table.Member.{Member}
use Rattle.mls_sessions.specs.declared.gate_table.View.{View}
use Rattle.mls_sessions.specs.declared.gate_table.View.TheVariants.{Spent, Starting, Filling, Giving, Sessions, Holding}

-- A seat: its view, and what it holds of the slot. (own)
abbrev pub Seat : Type 0
Seat = Me (Option Journal) View

-- A step on the word. (own)
abbrev pub OnWord : Type 0
OnWord = Step (Option Journal)

-- Opening, the win of the first seat: it has taken the slot, which is empty. (own)
abbrev pub filled : OnWord → Seat → ℕ → Seat → Type 0
filled st me found me' = (c : Charter) → me.0 ≡ Starting c → (me' ≡ (Filling c, (0, None) ∷ []))

-- Opening, the first put home: the seat has all n numbers to give. (own)
abbrev pub settled : OnWord → Seat → ℕ → Seat → Type 0
settled st me found me' = (c : Charter) → me.0 ≡ Filling c → me' ≡ (Giving c c.count, [])

-- What a session knows of a journal: its history is a prefix of it, it knows its own part, and at least so much of it is
-- forgotten as it knows. (own)
pub record IsBefore (m : Member) (t : Stretch) : Type 0 where
  pub front : IsPrefix m.later t.later
  pub own : of_session m.number m.later ≡ of_session m.number t.later
  pub less : m.forgotten ≤ t.forgotten

-- The monitor is out with the session, which learns what it knows of its journal. (own)
abbrev pub Taken : Charter → Member → Seat → Type 0
Taken c m me = (t : Stretch) × (me ≡ (Holding c m t [], (0, Some (present c t)) ∷ [])) × IsBefore m t

-- Win or lose: the gate was free, and the session holds, with that journal; or it was held, by another session, and no
-- view changes. (own)
abbrev pub won : OnWord → Seat → ℕ → Seat → Type 0
won st me found me' = (c : Charter) (m : Member) → me.0 ≡ Sessions c (m ∷ []) → (found ≡ 0 → Taken c m me')
    × (found ≢ 0 → (me' ≡ me) × (c.count ≢ 1))

-- The mark is set, or another word was found: no view changes. It counts as a win that was lost. (own)
abbrev pub marked : OnWord → Seat → ℕ → Seat → Type 0
marked st me found me' = me' ≡ me

-- The holder's view once the monitor is home, with the history that it had. (own)
abbrev pub kept_view : View → View
kept_view (Holding c m taken notes) = Sessions c (m ∷ [])
kept_view v = v

-- The slot with the monitor that the holder took, as it took it. (own)
abbrev pub taken_in : View → List (ℕ × Option Journal)
taken_in (Holding c m taken notes) = (0, Some (present c taken)) ∷ []
taken_in v = []

-- Put home and free, after a request that found no memory: the session holds no more, its history is as before, and the
-- monitor is as it was taken. (own)
abbrev pub kept : OnWord → Seat → ℕ → Seat → Type 0
kept st me found me' = (me' ≡ (kept_view me.0, [])) × (me.1 ≡ taken_in me.0)

-- What stands in a slot, beyond the journal when the office was opened. (own)
abbrev pub stretch_or : Charter → Option Journal → Stretch
stretch_or c (Some j) = stretch_of c j
stretch_or c None = opened c

-- What a seat holds that was taken out of the slot, beyond the journal when the office was opened. (own)
abbrev pub stretch_in : Charter → List (ℕ × Option Journal) → Stretch
stretch_in c [] = opened c
stretch_in c (x ∷ out) = stretch_or c x.1

-- The holder's view once the monitor is home, with the journal that was put home. (own)
abbrev pub updated_view : View → List (ℕ × Option Journal) → View
updated_view (Holding c m taken notes) out = Sessions c (member m.number (stretch_in c out) ∷ [])
updated_view v out = v

-- Put home and free, after an entry or a check: the session holds no more, and its history is the journal put home.
-- (own)
abbrev pub updated : OnWord → Seat → ℕ → Seat → Type 0
updated st me found me' = me' ≡ (updated_view me.0 me.1, [])

-- A session that doesn't hold the gate has read the word at a place: its history is now the present journal, of which
-- the word tells the accesses. (own)
abbrev pub Glimpsed : Charter → Member → ℕ → ℕ → Seat → Type 0
Glimpsed c m i word me = (t : Stretch) × (me ≡ (Sessions c (member m.number t ∷ []), [])) × IsBefore m t
    × Stands (begun c) (base c ++ t.later) × Tells (fold (begun c) (base c ++ t.later)) i word

-- A word of accesses is read with no lock: it is blank, and no view changes; or the session has seen the present
-- journal. (own)
abbrev pub glanced : OnWord → Seat → ℕ → Seat → Type 0
glanced st me found me' = (c : Charter) (m : Member) → me.0 ≡ Sessions c (m ∷ []) → (found ≡ 0 → me' ≡ me)
    × (found ≢ 0 → Glimpsed c m (st.word - FIRST) found me')

-- A session that doesn't hold the gate has read the count of changes: its history is now the present journal, whose later
-- entries have just so many. (own)
abbrev pub Tallied : Charter → Member → ℕ → Seat → Type 0
Tallied c m count me = (t : Stretch) × (me ≡ (Sessions c (member m.number t ∷ []), [])) × IsBefore m t
    × Stands (begun c) (base c ++ t.later) × (count ≡ changes t.later)

-- The count of changes is read with no lock: the session has seen the present journal. (own)
abbrev pub tallied : OnWord → Seat → ℕ → Seat → Type 0
tallied st me found me' = (c : Charter) (m : Member) → me.0 ≡ Sessions c (m ∷ []) → Tallied c m found me'

-- The holder's view once it noted a word. (own)
abbrev pub noted_view : View → ℕ → ℕ → View
noted_view (Holding c m taken notes) i w = Holding c m taken (note i w ∷ notes)
noted_view v i w = v

-- The holder reads a word of accesses, and notes it. It is what was noted before, and tells of the state that the
-- journal leads to which the holder took. (own)
abbrev pub read : OnWord → Seat → ℕ → Seat → Type 0
read st me found me' = (me' ≡ (noted_view me.0 (st.word - FIRST) found, me.1))
    × ((c : Charter) (m : Member) (taken : Stretch) (notes : List Note) → me.0 ≡ Holding c m taken notes
    → Tells (fold (begun c) (base c ++ taken.later)) (st.word - FIRST) found × Agrees notes (st.word - FIRST) found)

-- The holder's view once the entries of the monitor in the slot are in the present journal. (own)
abbrev pub published_view : View → List (ℕ × Option Journal) → View
published_view (Holding c m taken notes) out = Holding c (member m.number (stretch_in c out)) (stretch_in c out) []
published_view v out = v

-- The entries of the monitor in the slot are in the present journal from this step on. (own)
abbrev pub published : OnWord → Seat → ℕ → Seat → Type 0
published st me found me' = me' ≡ (published_view me.0 me.1, me.1)

-- A word of accesses is made blank, and noted so: no session finds an answer in it. (own)
abbrev pub blanked : OnWord → Seat → ℕ → Seat → Type 0
blanked st me found me' = me' ≡ (noted_view me.0 (st.word - FIRST) 0, me.1)

-- The longer of two lists. (own)
abbrev pub longer : List Entry → List Entry → List Entry
longer xs ys = if nat_lt (length xs) (length ys) then ys else xs

-- Both histories are prefixes of the longer one, which has of each session just the own part that it knew. (own)
pub record Agree (x y : Member) : Type 0 where
  pub first : IsPrefix x.later (longer x.later y.later)
  pub second : IsPrefix y.later (longer x.later y.later)
  pub first_own : of_session x.number (longer x.later y.later) ≡ of_session x.number x.later
  pub second_own : of_session y.number (longer x.later y.later) ≡ of_session y.number y.later

-- What two sessions know together: the greater number of forgotten entries, and the longer history. (own)
abbrev pub both_know : Member → Member → Stretch
both_know x y = stretch (max x.forgotten y.forgotten) (longer x.later y.later)

-- A look in a meeting: no view changes, and the two sessions in one seat agree. (own)
abbrev pub looked : OnWord → Seat → ℕ → Seat → Type 0
looked st me found me' = (me' ≡ me) × ((c : Charter) (x y : Member) → me.0 ≡ Sessions c (x ∷ y ∷ []) → Agree x y)

-- Split, at the opening: the giving seat has one number fewer to give. (own)
abbrev pub left_of : View → View
left_of (Giving c g) = Giving c (g - 1)
left_of v = v

-- The new seat has the session of that number, whose history is the journal when the office was opened. (own)
abbrev pub right_of : View → View
right_of (Giving c g) = Sessions c (member (c.count - g) (opened c) ∷ [])
right_of v = Spent

-- Join: the seat that stays lists the sessions of both; the other's view is spent. (own)
abbrev pub both_of : View → View → View
both_of (Sessions c xs) (Sessions d ys) = Sessions c (xs ++ ys)
both_of v w = v

-- Split, in a meeting: one session each again, both with what they know together. This is the first. (own)
abbrev pub first_of_two : View → View
first_of_two (Sessions c (x ∷ y ∷ rest)) = Sessions c (member x.number (both_know x y) ∷ [])
first_of_two v = v

-- Where two sessions met, the second of them with what they know together. (own)
abbrev pub second_of_two : View → View
second_of_two (Sessions c (x ∷ y ∷ rest)) = Sessions c (member y.number (both_know x y) ∷ [])
second_of_two v = Spent
