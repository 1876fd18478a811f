-- Replies and entries in numbers, and what calls tell.
use Rattle.std.specs.Prelude.{◌≡◌, ◌⊎◌, ℕ, ◌+◌, ℤ, pos, length, Option, Some, None, IsSomeAnd, MatchOption}
use Rattle.std.specs.Prelude.{if◌then◌else◌}
use Rattle.std.specs.FinSet as set
use Rattle.mls_tables.specs.declared.mode.Mode.{Mode}
use Rattle.mls_requests.specs.ReasonWords.{reason_place}
use Rattle.mls_requests.specs.declared.entry.Entry.{Entry}
use Rattle.mls_requests.specs.declared.reason.Reason.{Reason}
use Rattle.mls_requests.specs.declared.reply.Reply.{Reply}
use Rattle.mls_requests.specs.declared.reply.Reply.TheVariants.{Yes, Created, No, Undefined}
use Rattle.mls_requests.specs.declared.request.Request.{Request}
use Rattle.mls_rules.specs.Rules.{reply}
use Rattle.mls_c.specs.Opened.{Opened, state_of, next_entry, with_entry, kept_entry}
use Rattle.mls_c.specs.Requests.{numbers_of_request}
use Rattle.mls_c.specs.declared.answer.Answer.{Answer}
use Rattle.mls_c.specs.declared.answer.EntryNumbers.{EntryNumbers}
use Rattle.mls_c.specs.declared.status.TheConstants.{OK, ECLOSED, ENOMEM, EINVAL, ENOTFOUND}

-- The number of a reason, from 1 on in the order of the reasons. (own)
abbrev pub number_of_reason : Reason → ℕ
number_of_reason r = 1 + reason_place r

-- The number of a reply: of a denial 16 and that of its reason. (own)
abbrev pub number_of_reply : Reply → ℕ
number_of_reply Yes = 0
number_of_reply (Created o) = 1
number_of_reply Undefined = 2
number_of_reply (No r) = 16 + number_of_reason r

-- The object that a reply says was made, or 0, which is the root and was never made. (own)
abbrev pub object_of_reply : Reply → ℕ
object_of_reply Yes = 0
object_of_reply (Created o) = o
object_of_reply Undefined = 0
object_of_reply (No r) = 0

-- An answer: the number of an entry, and its reply. (own)
abbrev pub answer_of : ℕ → Reply → Answer
answer_of n r = record { number = n; reply = number_of_reply r; object = object_of_reply r }

-- An entry in numbers. (own)
abbrev pub numbers_of_entry : Entry → EntryNumbers
numbers_of_entry e = record {
  number = e.number;
  session = e.session;
  reply = number_of_reply e.reply;
  object = object_of_reply e.reply;
  request = numbers_of_request e.request;
}

-- Whether an access is held, as 1 or 0: 0 too where no monitor is open and where the mode is none. (own)
abbrev pub held_number : Option Opened → ℕ → ℕ → Option Mode → ℤ
held_number None s o x = pos 0
held_number (Some v) s o None = pos 0
held_number (Some v) s o (Some x) = if set.contains (state_of v).accesses (s, o, x) then pos 1 else pos 0

-- What a submit returns: whether the handle is closed, or the numbers are no request, or there is an answer, or no
-- memory. (own)
abbrev pub SubmitStatus : Option Opened → Option Request → ℤ → Type 0
SubmitStatus None r status = status ≡ ECLOSED
SubmitStatus (Some v) None status = status ≡ EINVAL
SubmitStatus (Some v) (Some r) status = (status ≡ OK) ⊎ (status ≡ ENOMEM)

-- What a decide returns: as a submit, and it needs no memory. (own)
abbrev pub decide_status : Option Opened → Option Request → ℤ
decide_status None r = ECLOSED
decide_status (Some v) None = EINVAL
decide_status (Some v) (Some r) = OK

-- An open monitor answered one request more: it has just the next entry more, and the answer is that entry's. (own)
abbrev pub Answers : Option Opened → ℕ → Option Request → Option Opened → Answer → Type 0
Answers old session request new answer = IsSomeAnd old (λ v. IsSomeAnd request (λ r.
    (new ≡ Some (with_entry v (next_entry v session r)))
    × (answer ≡ answer_of (length v.entries) (reply (state_of v) r))))

-- What an open monitor would answer to a request, with the number that its entry would have. (own)
abbrev pub WouldAnswer : Option Opened → Option Request → Answer → Type 0
WouldAnswer old request answer =
    IsSomeAnd old (λ v. IsSomeAnd request (λ r. answer ≡ answer_of (length v.entries) (reply (state_of v) r)))

-- How many entries the journal has; a closed handle has none. (own)
abbrev pub entry_count : Option Opened → ℕ
entry_count None = 0
entry_count (Some v) = length v.entries

-- What looking up an entry returns: whether the handle is closed, or the journal has none of this number that isn't
-- forgotten, or it is there. (own)
abbrev pub EntryStatus : Option Opened → ℕ → ℤ → Type 0
EntryStatus None n status = status ≡ ECLOSED
EntryStatus (Some v) n status = MatchOption (kept_entry v n) (status ≡ ENOTFOUND) (λ _. status ≡ OK)

-- The entry of this number is there and isn't forgotten, and these are its numbers. (own)
abbrev pub HasEntry : Option Opened → ℕ → EntryNumbers → Type 0
HasEntry old n row = IsSomeAnd old (λ v. IsSomeAnd (kept_entry v n) (λ e. row ≡ numbers_of_entry e))

-- How many of the first entries are forgotten; a closed handle has none. (own)
abbrev pub forgotten_count : Option Opened → ℕ
forgotten_count None = 0
forgotten_count (Some v) = v.forgotten

-- What forgetting returns: whether the handle is closed. (own)
abbrev pub forget_status : Option Opened → ℤ
forget_status None = ECLOSED
forget_status (Some v) = OK
