-- What a clause says of an office and of its sessions.
use Rattle.std.specs.Prelude.{◌≡◌, ◌⊎◌, ℕ, zero, suc, ◌+◌, ◌<◌, ◌≤◌, Bool, ◌&&◌, nat_le, List, [], ◌∷◌, ◌++◌, length}
use Rattle.std.specs.Prelude.{None, max, true, refl}
use mathlib.Core.List.{IsPrefix}
use Rattle.std.specs.Coded.{Coded, code_by, coded×}
use Rattle.atomic_table.specs.Seated.{TableId, table_id_coded}
use Rattle.mls_requests.specs.declared.entry.Entry.{Entry}
use Rattle.mls_requests.specs.declared.request.Request.{Request}
use Rattle.mls_sessions.specs.Journals.{Charter, charter_code}
use Rattle.mls_turns.specs.Journals.{Journal, journal, Stands}
use Rattle.mls_monitor.specs.Entries.{of_session, AllBelow, AllOf}
use Rattle.mls_rules.specs.Rules.{reply}
use Rattle.mls_monitor.specs.Journal.{fold}
use Rattle.mls_monitor.specs.Tails.{forgotten_of}
use Rattle.mls_sessions.specs.Rule.{begun, base, stretch, opened, with_more, present, news, member}
use Rattle.mls_sessions.specs.Steps.{Seat, IsBefore}
use Rattle.mls_sessions.specs.Cells.{Quiet}
use Rattle.mls_sessions.specs.Changes.{changes}
use Rattle.mls_sessions.specs.declared.gate_table.Note.{Note}
use Rattle.mls_sessions.specs.declared.gate_table.Stretch.{Stretch}
use Rattle.mls_sessions.specs.declared.gate_table.Member.{Member}
use Rattle.mls_sessions.specs.declared.counts.Counts.{Counts}
use Rattle.mls_sessions.specs.declared.gate_table.View.{View}
use Rattle.mls_sessions.specs.declared.gate_table.View.TheVariants.{Sessions, Holding}
use Rattle.mls_sessions.specs.contracts.gate_table.View as view
use Rattle.mls_sessions.specs.declared.limits.TheConstants.{MAX_SESSIONS}

-- An office: its table, and what it was opened with. (own)
pub record Office : Type 0 where
  pub table : TableId
  pub charter : Charter

-- The office with this table, opened with that. (own)
abbrev pub office_at : TableId → Charter → Office
office_at t c = record { table = t; charter = c }

-- A session: its table, and what its seat knows. (own)
pub record Session : Type 0 where
  pub table : TableId
  pub view : View

-- The session in this table, whose seat knows that. (own)
abbrev pub session_at : TableId → View → Session
session_at t v = record { table = t; view = v }

-- Whether an office can have so many sessions: 1 to 64. (own)
abbrev pub is_count : ℕ → Bool
is_count n = nat_le 1 n && nat_le n MAX_SESSIONS

-- The session of a seat that has one. (own)
abbrev pub member_of : View → Member
member_of (Sessions c (m ∷ rest)) = m
member_of (Holding c m taken notes) = m
member_of v = member 0 (stretch 0 [])

-- How much is forgotten of the journal that a holder took, and what was added to it since the office was opened. (own)
abbrev pub taken_of : View → Stretch
taken_of (Holding c m taken notes) = taken
taken_of v = stretch 0 []

-- What a holder noted of words of accesses. (own)
abbrev pub notes_of : View → List Note
notes_of (Holding c m taken notes) = notes
notes_of v = []

-- A session's number. (own)
abbrev pub number_of : View → ℕ
number_of v = (member_of v).number

-- The seat of one session that doesn't hold the gate. (own)
abbrev pub seated : Charter → Member → Seat
seated key m = (Sessions key (m ∷ []), [])

-- The seat of a session that holds the gate, with the monitor in hand. (own)
abbrev pub holding : Charter → Member → Stretch → Seat
holding key m taken = (Holding key m taken [], (0, None) ∷ [])

-- The same, where it noted this of words of accesses. (own)
abbrev pub noting : Charter → Member → Stretch → List Note → Seat
noting key m taken notes = (Holding key m taken notes, (0, None) ∷ [])

-- The seat holds the gate, and this is the journal of the monitor that it took. (own)
abbrev pub Holds : Charter → Journal → Seat → Type 0
Holds key j me = (me ≡ holding key (member_of me.0) (taken_of me.0)) × (j ≡ present key (taken_of me.0))

-- The monitor in hand has these entries more than the present journal, all of the holder's session. (own)
pub record HasMore (key : Charter) (me : Seat) (added : List Entry) (j : Journal) : Type 0 where
  pub grown : j ≡ present key (with_more (taken_of me.0) added)
  pub mine : AllOf (number_of me.0) added

-- These entries more than the present journal has change nothing that a word of accesses tells, by what the holder
-- noted. (own)
abbrev pub LeavesWords : Charter → Seat → List Entry → Type 0
LeavesWords key me added = Quiet (begun key) (base key ++ (taken_of me.0).later)
    (base key ++ ((taken_of me.0).later ++ added)) (notes_of me.0) key.cells

-- They change nothing that any word tells: no word of accesses, nor the count of changes. (own)
pub record IsQuiet (key : Charter) (me : Seat) (added : List Entry) : Type 0 where
  pub words : LeavesWords key me added
  pub count : changes added ≡ 0

-- The monitor in hand has entries more than the present journal: just one of them is a change, and they change nothing
-- that a word of accesses tells. (own)
pub record HasChange (key : Charter) (me : Seat) (j : Journal) : Type 0 where
  pub added : List Entry
  pub more : HasMore key me added j
  pub words : LeavesWords key me added
  pub count : changes added ≡ 1

-- The seat holds the gate, and the monitor in hand has entries more than the present journal that change nothing which
-- a word tells: it may be put home as it is. (own)
abbrev pub Leads : Charter → Journal → Seat → Type 0
Leads key j me = (me ≡ noting key (member_of me.0) (taken_of me.0) (notes_of me.0))
    × (added : List Entry) × HasMore key me added j × IsQuiet key me added

-- The monitor in hand has this entry more than one that leads had, with the reply that the rules give there. (own)
pub record IsNext (key : Charter) (me : Seat) (e : Entry) (j : Journal) : Type 0 where
  pub added : List Entry
  pub more : HasMore key me (added ++ e ∷ []) j
  pub quiet : IsQuiet key me added
  pub answered : e.reply ≡ reply (fold (begun key) (base key ++ ((taken_of me.0).later ++ added))) e.request

-- The session took out the monitor with this journal, which begins with its history, has just its own part, and of which
-- at least so much is forgotten as it knows. (own)
abbrev pub TookOut : Charter → Member → Journal → Seat → Type 0
TookOut key m j me = (t : Stretch) × (j ≡ present key t) × (me ≡ (Holding key m t [], (0, None) ∷ [])) × IsBefore m t

-- The session was given by the office. (own)
abbrev pub IsOf : Office → Session → Type 0
IsOf o s = (s.table ≡ o.table) × (s.view ≡ Sessions o.charter (member_of s.view ∷ []))
    × ((member_of s.view).number < o.charter.count)

-- A session's history: the journal as it has seen it. (own)
abbrev pub history : View → List Entry
history (Sessions c (m ∷ rest)) = base c ++ m.later
history v = []

-- How many entries of the journal are forgotten, as a session knows. (own)
abbrev pub forgotten_seen : View → ℕ
forgotten_seen v = (member_of v).forgotten

-- The journal as a session has seen it, with what it knows to be forgotten of it. (own)
abbrev pub journal_seen : Charter → View → Journal
journal_seen c v = journal (begun c) (forgotten_seen v) (history v)

-- A session has seen a journal of at least n entries. (own)
abbrev pub HasSeen : ℕ → View → Type 0
HasSeen n v = n ≤ length (history v)

-- The later of two histories has at least as many entries: what had seen a journal of n entries still has. (own)
abbrev pub NoShorter : View → View → Type 0
NoShorter old new = length (history old) ≤ length (history new)

-- How many changes a session has seen: those of its history since the office was opened. (own)
abbrev pub changes_seen : View → ℕ
changes_seen v = changes (member_of v).later

-- The own part of a session's history: those of its entries that the session made since the office was opened. (own)
abbrev pub own : View → List Entry
own v = of_session (member_of v).number (member_of v).later

-- A session made an entry: its history begins with the old one and ends with the entry, its own part has just that
-- entry more, the entry has its number and the request, and the history is legal, so that the reply is that of the
-- rules. What it knows to be forgotten is no less. (own)
pub record Submits (c : Charter) (old : View) (request : Request) (e : Entry) (new : View) : Type 0 where
  pub between : List Entry
  pub ends : history new ≡ (history old ++ between) ++ e ∷ []
  pub adds : own new ≡ own old ++ e ∷ []
  pub by : e.session ≡ number_of old
  pub asks : e.request ≡ request
  pub stands : Stands (begun c) (history new)
  pub less : forgotten_seen old ≤ forgotten_seen new

-- A session looked: its history begins with the old one, its own part is the same, and the history is legal. What it
-- knows to be forgotten is no less. (own)
pub record Sees (c : Charter) (old new : View) : Type 0 where
  pub begins : IsPrefix (history old) (history new)
  pub same : own new ≡ own old
  pub stands : Stands (begun c) (history new)
  pub less : forgotten_seen old ≤ forgotten_seen new

-- A session had the entries below a number forgotten: those that are there, of the journal that it then has seen, and
-- below the limit that a monitor has. So many may have been forgotten before, no fewer than it knew. (own)
pub record Forgets (n : ℕ) (old new : View) : Type 0 where
  pub before : ℕ
  pub known : forgotten_seen old ≤ before
  pub forgotten : forgotten_seen new ≡ forgotten_of before (length (history new)) n

-- A session put the monitor home that it held, and just as much is forgotten as when it took it. (own)
abbrev pub ForgetsNone : View → View → Type 0
ForgetsNone held home = forgotten_seen home ≡ (taken_of held).forgotten

-- A session put the monitor home that it held, and had just the entries below a number forgotten since it took it: those
-- that are there, and below the limit that a monitor has. (own)
abbrev pub ForgetsJust : ℕ → View → View → Type 0
ForgetsJust n held home = forgotten_seen home ≡ forgotten_of (taken_of held).forgotten (length (history home)) n

-- Two sessions met: both have the longer of the two histories, of which the other is a prefix, and their own parts and
-- numbers stay. Both know the greater number of forgotten entries. (own)
pub record Meets (x y x' y' : View) : Type 0 where
  pub same : history x' ≡ history y'
  pub one : (history x' ≡ history x) ⊎ (history x' ≡ history y)
  pub first : IsPrefix (history x) (history x')
  pub second : IsPrefix (history y) (history x')
  pub first_own : own x' ≡ own x
  pub second_own : own y' ≡ own y
  pub first_number : number_of x' ≡ number_of x
  pub second_number : number_of y' ≡ number_of y
  pub first_forgotten : forgotten_seen x' ≡ max (forgotten_seen x) (forgotten_seen y)
  pub second_forgotten : forgotten_seen y' ≡ max (forgotten_seen x) (forgotten_seen y)

-- The counts of a session: the length of its own part, and a length that its history has at least. (own)
abbrev pub IsCounted : Counts → View → Type 0
IsCounted c v = (c.made ≡ length (own v)) × (c.seen ≤ length (history v))

-- The first k sessions of an office as it is opened: numbered from 0, each with the monitor's journal as its history.
-- (own)
abbrev pub newcomers : Office → ℕ → List Session
newcomers o zero = []
newcomers o (suc k) = newcomers o k ++ session_at o.table (Sessions o.charter (member k (opened o.charter) ∷ [])) ∷ []

-- All are sessions of the office, and their numbers ascend from k on. (own)
abbrev pub Ascending : Office → ℕ → List Session → Type 0
Ascending o k [] = Unit {0}
Ascending o k (s ∷ sessions) = IsOf o s × (k ≤ number_of s.view) × Ascending o (number_of s.view + 1) sessions

-- What the seats of sessions know of them, in order. (own)
abbrev pub members_of : List Session → List Member
members_of [] = []
members_of (s ∷ sessions) = member_of s.view ∷ members_of sessions

-- The sessions of a seat. (own)
abbrev pub members_in : View → List Member
members_in (Sessions c members) = members
members_in v = []

-- The journal begins with every session's history, and has for each session just its own part. (own)
abbrev pub HasAll : Office → Journal → List Session → Type 0
HasAll o j [] = Unit {0}
HasAll o j (s ∷ sessions) = IsPrefix (history s.view) j.entries
    × (of_session (number_of s.view) (news o.charter j) ≡ own s.view) × HasAll o j sessions

-- At least so much of the journal is forgotten as each of the sessions knows. (own)
abbrev pub AllKnowLess : Journal → List Session → Type 0
AllKnowLess j [] = Unit {0}
AllKnowLess j (s ∷ sessions) = (forgotten_seen s.view ≤ j.forgotten) × AllKnowLess j sessions

-- What a closed office leaves: a legal journal from the office's start, which begins with the journal when it was
-- opened and with every session's history, has for each session just its own part, and whose entries from the base on
-- are of sessions of the office. At least so much of it is forgotten as was, and as each session knows; just as much as
-- was where the office's journal lasts. (own)
pub record Leaves (o : Office) (sessions : List Session) (j : Journal) : Type 0 where
  pub start : j.start ≡ begun o.charter
  pub forgotten : o.charter.forgotten ≤ j.forgotten
  pub known : AllKnowLess j sessions
  pub lasts : o.charter.lasts ≡ true → j.forgotten ≡ o.charter.forgotten
  pub begins : IsPrefix (base o.charter) j.entries
  pub all : HasAll o j sessions
  pub below : AllBelow o.charter.count (news o.charter j)
  pub stands : Stands j.start j.entries

-- An office as the pair of its parts, by which offices are compared. (own)
abbrev pub office_code : Coded Office
office_code =
    code_by (TableId × Charter) (coded× table_id_coded charter_code) (λ o. (o.table, o.charter))
    (λ p. record { table = p.0; charter = p.1 }) (λ _. refl)

-- A session as the pair of its parts, by which sessions are compared. (own)
abbrev pub session_code : Coded Session
session_code =
    code_by (TableId × View) (coded× table_id_coded view.the_row.coded) (λ s. (s.table, s.view))
    (λ p. record { table = p.0; view = p.1 }) (λ _. refl)
