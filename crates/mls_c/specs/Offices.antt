-- What handles of an office hold, and what its calls tell.
use Rattle.std.specs.Prelude.{◌≡◌, ◌⊎◌, ℕ, ◌<◌, ℤ, pos, true, false, List, [], ◌∷◌, length, refl}
use Rattle.std.specs.Prelude.{Option, Some, None, IsSomeAnd, if◌then◌else◌}
use Rattle.std.specs.Coded.{Coded, code_by, coded×, coded_list, coded_option}
use Rattle.std.specs.FinSet as set
use Rattle.mls_tables.specs.declared.mode.Mode.{Mode}
use Rattle.mls_state.specs.State.{State}
use Rattle.mls_requests.specs.declared.entry.Entry.{Entry}
use Rattle.mls_requests.specs.declared.request.Request.{Request}
use Rattle.mls_rules.specs.Rules.{reply}
use Rattle.mls_monitor.specs.Journal.{fold}
use Rattle.mls_turns.specs.Journals.{journal}
use Rattle.mls_sessions.specs.Rule.{begun, base}
use Rattle.mls_sessions.specs.Sessions.{Office, Session, office_code, session_code, is_count, newcomers, history}
use Rattle.mls_sessions.specs.Sessions.{number_of, Submits, Sees, Leaves}
use Rattle.mls_c.specs.Opened.{Opened, opened_code}
use Rattle.mls_c.specs.Answers.{answer_of}
use Rattle.mls_c.specs.declared.answer.Answer.{Answer}
use Rattle.mls_c.specs.declared.status.TheConstants.{OK, ECLOSED, EOPEN, ENOMEM, EINVAL, EBUSY}

-- What a session's handle holds: a session, with its office. (own)
pub record Place : Type 0 where
  pub office : Office
  pub session : Session

-- An office, with the sessions that aren't handed out. (own)
pub record Seats : Type 0 where
  pub office : Office
  pub home : List Session

-- What an office's handle holds: the open monitor that the office was opened with, or that of another start in its
-- place while the office has it; and the office. (own)
pub record Hall : Type 0 where
  pub opened : Opened
  pub seats : Option Seats

-- How these are stored: as the tuples of their parts. (own)
abbrev pub place_code : Coded Place
place_code =
    code_by (Office × Session) (coded× office_code session_code) (λ p. (p.office, p.session))
    (λ p. record { office = p.0; session = p.1 }) (λ _. refl)

-- (own)
abbrev pub seats_code : Coded Seats
seats_code =
    code_by (Office × List Session) (coded× office_code (coded_list session_code)) (λ t. (t.office, t.home))
    (λ p. record { office = p.0; home = p.1 }) (λ _. refl)

-- (own)
abbrev pub hall_code : Coded Hall
hall_code =
    code_by (Opened × Option Seats) (coded× opened_code (coded_option seats_code)) (λ h. (h.opened, h.seats))
    (λ p. record { opened = p.0; seats = p.1 }) (λ _. refl)

-- All these sessions have numbers below n. (own)
abbrev pub NumbersBelow : ℕ → List Session → Type 0
NumbersBelow n [] = Unit {0}
NumbersBelow n (s ∷ sessions) = (number_of s.view < n) × NumbersBelow n sessions

-- The state that a session has seen last. (own)
abbrev pub state_seen : Place → State
state_seen p = fold (begun p.office.charter) (history p.session.view)

-- It is the same session: its office and its number stay. (own)
abbrev pub IsSameSession : Place → Place → Type 0
IsSameSession p q = (q.office ≡ p.office) × (number_of q.session.view ≡ number_of p.session.view)

-- A session looked: its history begins with the old one, its own part stays. (own)
abbrev pub Looks : Place → Place → Type 0
Looks p q = IsSameSession p q × Sees p.office.charter p.session.view q.session.view

-- What a check of a session returns: whether the handle is closed, or the mode is none, or there is an answer, or
-- another session is at the monitor. (own)
abbrev pub CheckStatus : Option Place → Option Mode → ℤ → Type 0
CheckStatus None x status = status ≡ ECLOSED
CheckStatus (Some p) None status = status ≡ EINVAL
CheckStatus (Some p) (Some x) status = (status ≡ OK) ⊎ (status ≡ EBUSY)

-- What a decide of a session returns: as a check, where the numbers are no request. (own)
abbrev pub DecideStatus : Option Place → Option Request → ℤ → Type 0
DecideStatus None r status = status ≡ ECLOSED
DecideStatus (Some p) None status = status ≡ EINVAL
DecideStatus (Some p) (Some r) status = (status ≡ OK) ⊎ (status ≡ EBUSY)

-- What a submit of a session returns: as a decide, or that there is no memory. (own)
abbrev pub SessionStatus : Option Place → Option Request → ℤ → Type 0
SessionStatus None r status = status ≡ ECLOSED
SessionStatus (Some p) None status = status ≡ EINVAL
SessionStatus (Some p) (Some r) status = (status ≡ OK) ⊎ (status ≡ EBUSY) ⊎ (status ≡ ENOMEM)

-- The session's office has no other session. (own)
abbrev pub IsAlone : Option Place → Type 0
IsAlone old = IsSomeAnd old (λ p. p.office.charter.count ≡ 1)

-- Whether an access is held in a state that the session has seen last, as 1 or 0. (own)
abbrev pub held_in : Place → ℕ → ℕ → Mode → ℤ
held_in q s o x = if set.contains (state_seen q).accesses (s, o, x) then pos 1 else pos 0

-- A session looked whether an access is held: the answer is that of the state which it saw. (own)
abbrev pub Checks : Option Place → ℕ → ℕ → Option Mode → Option Place → ℤ → Type 0
Checks old s o mode new held =
    IsSomeAnd old (λ p. IsSomeAnd mode (λ x. IsSomeAnd new (λ q. Looks p q × (held ≡ held_in q s o x))))

-- A session looked what would be replied: the answer is that of the state which it saw, with the number that the entry
-- would have there. (own)
abbrev pub Decides : Option Place → Option Request → Option Place → Answer → Type 0
Decides old request new answer = IsSomeAnd old (λ p. IsSomeAnd request (λ r. IsSomeAnd new (λ q.
    Looks p q × (answer ≡ answer_of (length (history q.session.view)) (reply (state_seen q) r)))))

-- A session made an entry of this request, with its number: it is the last of the history, and the answer is that
-- entry's. (own)
abbrev pub MakesEntry : Option Place → Option Request → Option Place → Answer → Type 0
MakesEntry old request new answer = IsSomeAnd old (λ p. IsSomeAnd request (λ r. IsSomeAnd new (λ q.
    IsSameSession p q × ((e : Entry) × Submits p.office.charter p.session.view r e q.session.view
    × (answer ≡ answer_of e.number e.reply)))))

-- What opening an office returns: that its handle is open already, or the monitor's is closed, or there can't be so
-- many sessions; else how that ends. (own)
abbrev pub OfficeStatus : (ℤ → Type 0) → Option Hall → Option Opened → ℕ → ℤ → Type 0
OfficeStatus Ends (Some h) v n status = status ≡ EOPEN
OfficeStatus Ends None None n status = status ≡ ECLOSED
OfficeStatus Ends None (Some v) n status = (is_count n ≡ true → Ends status) × (is_count n ≡ false → status ≡ EINVAL)

-- It is open, or there is no memory. (own)
abbrev pub IsTried : ℤ → Type 0
IsTried status = (status ≡ OK) ⊎ (status ≡ ENOMEM)

-- An office with a monitor's start and journal, and with so many sessions. (own)
abbrev pub HasJournal : Opened → ℕ → Seats → Type 0
HasJournal v n t = (begun t.office.charter ≡ v.start) × (base t.office.charter ≡ v.entries)
    × (t.office.charter.forgotten ≡ v.forgotten) × (t.office.charter.count ≡ n)

-- The same, and its sessions are all at home. (own)
abbrev pub HasMonitor : Opened → ℕ → Seats → Type 0
HasMonitor v n t = HasJournal v n t × (t.home ≡ newcomers t.office n)

-- The monitor of a handle went into an office. (own)
abbrev pub OpensOffice : Option Opened → ℕ → Option Hall → Type 0
OpensOffice old n new = IsSomeAnd old (λ v. IsSomeAnd new (λ h.
    (h.opened.names ≡ v.names) × IsSomeAnd h.seats (HasMonitor v n)))

-- The office of an office's handle. (own)
abbrev pub seats_of : Option Hall → Option Seats
seats_of None = None
seats_of (Some h) = h.seats

-- The open monitor that is in an office's handle. (own)
abbrev pub opened_of : Option Hall → Option Opened
opened_of None = None
opened_of (Some h) = Some h.opened

-- What closing an office returns: that the monitor's handle is open already, or the office's is closed; else it is
-- closed, or sessions are out. (own)
abbrev pub CloseStatus : Option Opened → Option Seats → ℤ → Type 0
CloseStatus (Some v) t status = status ≡ EOPEN
CloseStatus None None status = status ≡ ECLOSED
CloseStatus None (Some t) status = (status ≡ OK) ⊎ (status ≡ EBUSY)

-- The monitor came back out of an office, with the names that it had, and with what its sessions leave. (own)
abbrev pub ClosesOffice : Option Hall → Option Opened → Type 0
ClosesOffice old new = IsSomeAnd old (λ h. IsSomeAnd h.seats (λ t. IsSomeAnd new (λ v.
    (v.names ≡ h.opened.names) × Leaves t.office t.home (journal v.start v.forgotten v.entries))))
