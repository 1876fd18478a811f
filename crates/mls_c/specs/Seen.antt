-- What the handle of a session tells of the journal that the session sees, and of the state which that leads to.
use Rattle.std.specs.Prelude.{◌≡◌, ◌≢◌, ◌⊎◌, ℕ, ◌+◌, ◌<◌, ◌≤◌, ℤ, true, false, List, [], length, take, drop}
use Rattle.std.specs.Prelude.{Option, Some, None, IsSomeAnd}
use Rattle.mls_labels.specs.Label.{Label}
use Rattle.mls_state.specs.State.{State}
use Rattle.mls_requests.specs.declared.request.Request.{Request}
use Rattle.mls_journal.specs.EntryText.{journal_text}
use Rattle.mls_rules.specs.Rules.{is_defined}
use Rattle.mls_explain.specs.declared.condition.Condition.{Condition}
use Rattle.mls_tails.specs.Tails.{AreMost}
use Rattle.mls_monitor.specs.Journal.{fold}
use Rattle.mls_turns.specs.Journals.{Journal}
use Rattle.mls_sessions.specs.Changes.{Keeps}
use Rattle.mls_sessions.specs.Sessions.{HasSeen, Forgets, Meets, journal_seen, changes_seen}
use Rattle.mls_c.specs.Conditions.{AreConditions, HasActionRemedy, DefinedStatus, Explains, condition_count}
use Rattle.mls_c.specs.declared.condition_numbers.ConditionNumbers.{ConditionNumbers}
use Rattle.mls_c.specs.declared.explaining.RemedyNumbers.{RemedyNumbers}
use Rattle.mls_c.specs.Offices.{Place, IsSameSession, Looks, state_seen}
use Rattle.mls_c.specs.Texts.{LiesIn, HasLength}
use Rattle.mls_c.specs.declared.status.TheConstants.{OK, ECLOSED, ENOMEM, EINVAL, ERANGE, ENOTFOUND, EBUSY, EAGAIN}

-- The state that a journal leads to. (own)
abbrev pub state_at : Journal → State
state_at j = fold j.start j.entries

-- The journal that a session has seen last. (own)
abbrev pub seen_by : Place → Journal
seen_by p = journal_seen p.office.charter p.session.view

-- The session of a handle has seen a journal of at least n entries. (own)
abbrev pub Reaches : ℕ → Option Place → Type 0
Reaches n handle = IsSomeAnd handle (λ p. HasSeen n p.session.view)

-- What a look through a session returns: that the handle is closed; that another session is at the monitor, which can't
-- be where there is no other, and nothing is changed; else the session looked, and the status is right for the journal
-- that it saw. (own)
abbrev pub LookStatus : Option Place → (Journal → ℤ → Type 0) → Option Place → ℤ → Type 0
LookStatus None Fits new status = (status ≡ ECLOSED) × (new ≡ None)
LookStatus (Some p) Fits new status =
    ((status ≡ EBUSY) × (new ≡ Some p) × (p.office.charter.count ≢ 1))
    ⊎ IsSomeAnd new (λ q. Looks p q × Fits (seen_by q) status)

-- This is so of the journal that a session has seen last. (own)
abbrev pub InSeen : Option Place → (Journal → Type 0) → Type 0
InSeen handle Holds = IsSomeAnd handle (λ p. Holds (seen_by p))

-- What seeing a journal of n entries returns: that it is seen, or that the journal isn't that long. (own)
abbrev pub SeeStatus : ℕ → Journal → ℤ → Type 0
SeeStatus n j status = ((status ≡ OK) × (n ≤ length j.entries)) ⊎ ((status ≡ EAGAIN) × (length j.entries < n))

-- What a look returns that is done. (own)
abbrev pub Done : Journal → ℤ → Type 0
Done j status = status ≡ OK

-- The session of a handle had the entries below a number forgotten: those that are there, of the journal that it then
-- has seen. (own)
abbrev pub ForgetsIn : ℕ → Option Place → Option Place → Type 0
ForgetsIn n old new = IsSomeAnd old (λ p. IsSomeAnd new (λ q. Forgets n p.session.view q.session.view))

-- A session looked how many changes the journal has that it sees, since its office was opened: no fewer than it saw
-- before, and where they are as many, what it saw of accesses, permissions and current labels stays. (own)
pub record CountsChanges (p : Place) (count : ℕ) (q : Place) : Type 0 where
  pub looks : Looks p q
  pub counts : count ≡ changes_seen q.session.view
  pub rises : changes_seen p.session.view ≤ count
  pub keeps : count ≡ changes_seen p.session.view → Keeps (state_seen p) (state_seen q)

-- The sessions of handles looked so. (own)
abbrev pub CountsIn : Option Place → ℕ → Option Place → Type 0
CountsIn old count new = IsSomeAnd old (λ p. IsSomeAnd new (λ q. CountsChanges p count q))

-- What counting changes returns: whether the handle is closed. (own)
abbrev pub changes_status : Option Place → ℤ
changes_status None = ECLOSED
changes_status (Some p) = OK

-- The handles are of sessions of one office, where both are open. (own)
abbrev pub AreOfOneOffice : Option Place → Option Place → Type 0
AreOfOneOffice one other = (p q : Place) → one ≡ Some p → other ≡ Some q → q.office ≡ p.office

-- What a meeting returns: whether a handle is closed. (own)
abbrev pub meet_status : Option Place → Option Place → ℤ
meet_status None other = ECLOSED
meet_status (Some p) None = ECLOSED
meet_status (Some p) (Some q) = OK

-- The sessions of two handles met: both have the longer of their two histories. (own)
abbrev pub MeetsIn : Option Place → Option Place → Option Place → Option Place → Type 0
MeetsIn one other one' other' = IsSomeAnd one (λ p. IsSomeAnd other (λ q. IsSomeAnd one' (λ p'. IsSomeAnd other' (λ q'.
    IsSameSession p p' × IsSameSession q q'
    × Meets p.session.view q.session.view p'.session.view q'.session.view))))

-- What copying out the lines from a number on returns: that memory hasn't all entries from there, or that this isn't yet
-- the number of the next; or that so many bytes have no room for the first line; or it is done, or there is no memory.
-- (own)
abbrev pub TailStatus : ℕ → ℕ → Journal → ℤ → Type 0
TailStatus from room j status = ((status ≡ ENOTFOUND) × ((from < j.forgotten) ⊎ (length j.entries < from)))
    ⊎ ((j.forgotten ≤ from) × (from ≤ length j.entries) × ((status ≡ OK) ⊎ (status ≡ ENOMEM)
    ⊎ ((status ≡ ERANGE) × (room < length (journal_text (take 1 (drop from j.entries)))))))

-- This is the text of a journal's entries from a number up to the next: whole lines, the most that fit into so many
-- bytes, and at least one where there is one. (own)
pub record IsTail (from room : ℕ) (text : List ℕ) (next : ℕ) (j : Journal) : Type 0 where
  pub count : ℕ
  pub ends : next ≡ from + count
  pub most : AreMost (drop from j.entries) room count
  pub some : count ≡ 0 → drop from j.entries ≡ []
  pub lines : text ≡ journal_text (take count (drop from j.entries))

-- That text lies at the front of a buffer, and its length is told. (own)
pub record CopiesTail (from : ℕ) (old new : List ℕ) (len next : ℕ) (j : Journal) : Type 0 where
  pub text : List ℕ
  pub tail : IsTail from (length old) text next j
  pub lies : LiesIn (Some text) old new
  pub told : HasLength (Some text) len

-- What is found of a request: its conditions and its remedy; or that what it names isn't there; or there is no memory.
-- (own)
abbrev pub Explained : State → Request → List Condition → Option Label → ℤ → Type 0
Explained v r all level status =
    ((status ≡ OK) × (is_defined v r ≡ true) × AreConditions v r all × HasActionRemedy v r.subject r.action level)
    ⊎ ((status ≡ ENOTFOUND) × (is_defined v r ≡ false)) ⊎ (status ≡ ENOMEM)

-- What explaining a request through a session returns: that the handle is closed, or the numbers are no request; else as
-- any look, that what it names isn't there, or whether there is room for its conditions, or there is no memory. (own)
abbrev pub ExplainLook : Option Place → Option Request → ℕ → Option Place → ℤ → Type 0
ExplainLook None request room new status = (status ≡ ECLOSED) × (new ≡ None)
ExplainLook (Some p) None room new status = (status ≡ EINVAL) × (new ≡ Some p)
ExplainLook (Some p) (Some r) room new status = LookStatus (Some p) (λ j. DefinedStatus (state_at j) r room) new status

-- Explaining a request of numbers leaves what explaining it leaves in the state of a journal. (own)
abbrev pub ExplainsAt : Option Request → List ConditionNumbers → List ConditionNumbers → ℕ → RemedyNumbers → Journal
    → Type 0
ExplainsAt request before rows count remedy j =
    IsSomeAnd request (λ r. Explains (state_at j) r before rows count remedy)

-- How many conditions a request of numbers has there. (own)
abbrev pub CountsAt : Option Request → ℕ → Journal → Type 0
CountsAt request count j = IsSomeAnd request (λ r. count ≡ condition_count (state_at j) r)
