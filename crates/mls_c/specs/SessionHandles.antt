-- What the handles of an office's sessions hold, and what opening an office with them and closing it tell.
use Rattle.std.specs.Prelude.{◌≡◌, ◌≢◌, ◌⊎◌, ℕ, zero, suc, ◌+◌, ◌≤◌, ℤ, Bool, true, false, ◌&&◌, not, nat_eq}
use Rattle.std.specs.Prelude.{List, [], ◌∷◌, ◌++◌, map, length, Option, Some, None, IsSomeAnd, is_some}
use Rattle.mls_turns.specs.Journals.{journal}
use Rattle.mls_sessions.specs.Rule.{member, opened}
use Rattle.mls_sessions.specs.Sessions.{Office, Session, session_at, number_of, Leaves}
use Rattle.mls_sessions.specs.declared.gate_table.View.TheVariants.{Sessions}
use Rattle.mls_c.specs.Opened.{Opened}
use Rattle.mls_c.specs.Offices.{Place, Seats, Hall, HasJournal, OfficeStatus, seats_of}
use Rattle.mls_c.specs.declared.office_handle.MlsOffice.{MlsOffice}
use Rattle.mls_c.specs.declared.session_handle.MlsSession.{MlsSession}
use Rattle.mls_c.specs.declared.status.TheConstants.{OK, ECLOSED, EOPEN, ENOMEM, EINVAL, EBUSY}

-- What the handle of a session holds: a session with its office, or nothing; and the serial of the office that it was
-- opened with last, and its number there. (own)
pub record SessionHandle : Type 0 where
  pub place : Option Place
  pub serial : ℕ
  pub number : ℕ

-- (own)
abbrev pub handle_of : MlsSession → SessionHandle
handle_of s = record { place = s.place.value; serial = s.serial; number = s.number }

-- (own)
abbrev pub handles_of : List MlsSession → List SessionHandle
handles_of sessions = map handle_of sessions

-- A handle keeps the serial and the number that it was opened with. (own)
abbrev pub KeepsSeat : MlsSession → MlsSession → Type 0
KeepsSeat old new = (new.serial ≡ old.serial) × (new.number ≡ old.number)

-- No handle is open. (own)
abbrev pub are_closed : List SessionHandle → Bool
are_closed [] = true
are_closed (h ∷ handles) = not (is_some h.place) && are_closed handles

-- Each handle is open. (own)
abbrev pub are_open : List SessionHandle → Bool
are_open [] = true
are_open (h ∷ handles) = is_some h.place && are_open handles

-- The handles have the serial of an office, and the numbers from k up to the count of its sessions, in order. (own)
abbrev pub are_numbered : ℕ → ℕ → ℕ → List SessionHandle → Bool
are_numbered serial count k [] = nat_eq k count
are_numbered serial count k (h ∷ handles) =
    nat_eq h.serial serial && (nat_eq h.number k && are_numbered serial count (k + 1) handles)

-- The session with the number k of an office as it is opened: it has the monitor's journal as its history. (own)
abbrev pub newcomer : Office → ℕ → Session
newcomer o k = session_at o.table (Sessions o.charter (member k (opened o.charter) ∷ []))

-- The handle of that session, of an office with this serial. (own)
abbrev pub handed_to : Office → ℕ → ℕ → SessionHandle
handed_to o serial k =
    record { place = Some (record { office = o; session = newcomer o k }); serial = serial; number = k }

-- The handles of the first k sessions of an office as it is opened, in order. (own)
abbrev pub handed_out : Office → ℕ → ℕ → List SessionHandle
handed_out o serial zero = []
handed_out o serial (suc k) = handed_out o serial k ++ handed_to o serial k ∷ []

-- All sessions were handed out into handles: none is at home. (own)
abbrev pub HandsAllOut : ℕ → ℕ → Option Seats → Option Seats → List SessionHandle → Type 0
HandsAllOut serial n old new handles = IsSomeAnd old (λ t. IsSomeAnd new (λ u.
    (u.office ≡ t.office) × (u.home ≡ []) × (handles ≡ handed_out t.office serial n)))

-- The monitor of a handle went into an office, and each handle of a session holds the session of its place, with the
-- office's serial and the session's number. (own)
abbrev pub OpensWith : Option Opened → ℕ → ℕ → Option Hall → List SessionHandle → Type 0
OpensWith old serial n new handles = IsSomeAnd old (λ v. IsSomeAnd new (λ h. (h.opened.names ≡ v.names)
    × IsSomeAnd h.seats (λ t. HasJournal v n t × (t.home ≡ []) × (handles ≡ handed_out t.office serial n))))

-- It is open with its sessions, or there is no memory; or, as no run is known to, it is open with its sessions at home.
-- (own)
abbrev pub IsTriedWith : ℤ → Type 0
IsTriedWith status = (status ≡ OK) ⊎ (status ≡ ENOMEM) ⊎ (status ≡ EBUSY)

-- What opening an office with n handles of sessions returns: that one of these is open already; else what opening the
-- office returns. (own)
abbrev pub OpeningStatus : List SessionHandle → ℕ → Option Hall → Option Opened → ℤ → Type 0
OpeningStatus handles n hall v status =
    (are_closed handles ≡ false → status ≡ EOPEN)
    × (are_closed handles ≡ true → OfficeStatus IsTriedWith hall v n status)

-- An open monitor has the names, the start and the entries that it had, and at least so much of them is forgotten.
-- (own)
abbrev pub IsAsBefore : Opened → Opened → Type 0
IsAsBefore v w = (w.names ≡ v.names) × (w.start ≡ v.start) × (w.entries ≡ v.entries) × (v.forgotten ≤ w.forgotten)

-- A monitor's handle is as before, or holds a monitor that is. (own)
abbrev pub StaysAs : Option Opened → Option Opened → Type 0
StaysAs old new = (new ≡ old) ⊎ IsSomeAnd old (λ v. IsSomeAnd new (IsAsBefore v))

-- A handle with an office's serial is of this office: where both are open, its session is the office's, and has the
-- handle's number. This is so because no two openings have the same serial. (own)
abbrev pub IsOfOffice : ℕ → Option Seats → SessionHandle → Type 0
IsOfOffice serial seats h = h.serial ≡ serial → (t : Seats) (p : Place) → seats ≡ Some t → h.place ≡ Some p
    → (p.office ≡ t.office) × (number_of p.session.view ≡ h.number)

-- Each of the handles is. (own)
abbrev pub AreOfOffice : ℕ → Option Seats → List SessionHandle → Type 0
AreOfOffice serial seats [] = Unit {0}
AreOfOffice serial seats (h ∷ handles) = IsOfOffice serial seats h × AreOfOffice serial seats handles

-- The handles hold the sessions of an office with the numbers from k on, in order. (own)
abbrev pub AreSessionsOf : Office → ℕ → List SessionHandle → Type 0
AreSessionsOf o k [] = Unit {0}
AreSessionsOf o k (h ∷ handles) =
    IsSomeAnd h.place (λ p. (p.office ≡ o) × (number_of p.session.view ≡ k)) × AreSessionsOf o (k + 1) handles

-- The session of a handle, before others. (own)
abbrev pub session_before : Option Place → List Session → List Session
session_before None sessions = sessions
session_before (Some p) sessions = p.session ∷ sessions

-- The sessions of handles, in order. (own)
abbrev pub sessions_of : List SessionHandle → List Session
sessions_of [] = []
sessions_of (h ∷ handles) = session_before h.place (sessions_of handles)

-- The handle without its session. (own)
abbrev pub shut : SessionHandle → SessionHandle
shut h = record { place = None; serial = h.serial; number = h.number }

-- No session of an office is at home, and each of its handles is open. (own)
abbrev pub are_all_out : Seats → List SessionHandle → Bool
are_all_out t handles = nat_eq (length t.home) 0 && are_open handles

-- The handles give back all sessions of an office with this serial. (own)
abbrev pub gives_all : ℕ → ℕ → Option Seats → List SessionHandle → Bool
gives_all serial count None handles = false
gives_all serial count (Some t) handles = are_numbered serial count 0 handles && are_all_out t handles

-- What giving sessions back returns: that the office is closed, or one of the handles isn't that of the office's
-- session of its place, or one isn't open; else how that ends. (own)
abbrev pub GivingStatus : (ℤ → Type 0) → ℕ → ℕ → Option Seats → List SessionHandle → ℤ → Type 0
GivingStatus Ends serial count None handles status = status ≡ ECLOSED
GivingStatus Ends serial count (Some t) handles status =
    (are_numbered serial count 0 handles ≡ false → status ≡ EINVAL)
    × (are_numbered serial count 0 handles ≡ true → (are_all_out t handles ≡ false → status ≡ EBUSY)
    × (are_all_out t handles ≡ true → Ends status))

-- All are given back. (own)
abbrev pub IsGiven : ℤ → Type 0
IsGiven status = status ≡ OK

-- The office is closed; or, as no run is known to, it isn't, and has its sessions at home. (own)
abbrev pub IsClosed : ℤ → Type 0
IsClosed status = (status ≡ OK) ⊎ (status ≡ EBUSY)

-- What closing an office with its handles of sessions returns: that the monitor's handle is open already; else what
-- giving the sessions back returns. (own)
abbrev pub ClosingStatus : Option Opened → ℕ → ℕ → Option Seats → List SessionHandle → ℤ → Type 0
ClosingStatus (Some v) serial count seats handles status = status ≡ EOPEN
ClosingStatus None serial count seats handles status = GivingStatus IsClosed serial count seats handles status

-- All sessions are at home again. (own)
abbrev pub TakesAllBack : Option Seats → List SessionHandle → Option Seats → Type 0
TakesAllBack old handles new = IsSomeAnd old (λ t. IsSomeAnd new (λ u.
    (u.office ≡ t.office) × (u.home ≡ sessions_of handles)))

-- The closing was refused before a session was moved: it isn't done, and is not busy where all sessions are given.
-- (own)
abbrev pub IsRefused : MlsOffice → List MlsSession → ℤ → Type 0
IsRefused office sessions status = (status ≢ OK)
    × (status ≡ EBUSY → gives_all office.serial office.count (seats_of office.hall.value) (handles_of sessions) ≡ false)

-- It is busy where all sessions are given, as no run is known to be. (own)
abbrev pub IsLeft : MlsOffice → List MlsSession → ℤ → Type 0
IsLeft office sessions status = (status ≡ EBUSY)
    × (gives_all office.serial office.count (seats_of office.hall.value) (handles_of sessions) ≡ true)

-- The monitor came back out of an office, with the names that it had, and with what the sessions of these handles
-- leave. (own)
abbrev pub ClosesWith : Option Hall → List SessionHandle → Option Opened → Type 0
ClosesWith old handles new = IsSomeAnd old (λ h. IsSomeAnd h.seats (λ t. IsSomeAnd new (λ v.
    (v.names ≡ h.opened.names) × Leaves t.office (sessions_of handles) (journal v.start v.forgotten v.entries))))
