-- What is written in numbers is read back.
use Rattle.std.specs.Prelude.{◌≡◌, ℕ, ◌+◌, ◌-◌, ◌==◌, Option, Some, if◌then◌else◌, refl}
use Rattle.std.proofs.Common.{sym, ap, ◌∙◌}
use Rattle.std.proofs.lemmas.Bool.{lt-ltb}
use Rattle.std.proofs.lemmas.Option.{same_Some}
use Rattle.mls_labels.specs.Label.{Label}
use Rattle.mls_labels.proofs.Laws.{categories_back}
use Rattle.mls_labels.specs.declared.limits.TheConstants.{MAX_LEVELS}
use Rattle.mls_tables.specs.declared.mode.Mode.{Mode}
use Rattle.mls_tables.specs.declared.mode.Mode.TheVariants.{Execute, Read, Append, Write}
use Rattle.mls_requests.specs.declared.action.Action.{Action}
use Rattle.mls_requests.specs.declared.action.Action.TheVariants.{Get, Release, Give, Rescind, Create, Delete, SubjectLevel, ObjectLevel}
use Rattle.mls_requests.specs.declared.entry.Entry.{Entry}
use Rattle.mls_requests.specs.declared.reason.Reason.{Reason}
use Rattle.mls_requests.specs.declared.reason.Reason.TheVariants.{Discretionary, Simple, Star, Integrity, Authority, Compatibility, Ceiling, Root, Full}
use Rattle.mls_requests.specs.declared.reply.Reply.{Reply}
use Rattle.mls_requests.specs.declared.reply.Reply.TheVariants.{Yes, Created, No, Undefined}
use Rattle.mls_requests.specs.declared.request.Request.{Request}
use Rattle.mls_journal.specs.EntryText.{LabelHasRanges, ActionHasRanges, HasRanges}
use Rattle.mls_start_text.specs.Each.{having}
use Rattle.mls_c.specs.Labels.{label_of, numbers_of_label}
use Rattle.mls_c.specs.Requests.{mode_at, number_of_mode, action_of, numbers_of_action, request_of, numbers_of_request}
use Rattle.mls_c.specs.Answers.{number_of_reason, number_of_reply, object_of_reply, numbers_of_entry}
use Rattle.mls_c.specs.declared.answer.EntryNumbers.{EntryNumbers}

pub label_read : (l : Label) → LabelHasRanges l → label_of (numbers_of_label l) ≡ Some l
label_read l h = rw (lt-ltb l.level MAX_LEVELS h.0, categories_back l.categories h.1) refl

pub label_apart : (a b : Label) → LabelHasRanges a → LabelHasRanges b → numbers_of_label a ≡ numbers_of_label b → a ≡ b
label_apart a b h k e = same_Some a b (sym (label_read a h) ∙ ap label_of e ∙ label_read b k)

pub mode_read : (x : Mode) → mode_at (number_of_mode x) ≡ Some x
mode_read Execute = refl
mode_read Read = refl
mode_read Append = refl
mode_read Write = refl

action_read : (s : ℕ) (a : Action) → ActionHasRanges a → action_of (numbers_of_action s a) ≡ Some a
action_read s (Get x o) h = rw (mode_read x) refl
action_read s (Release x o) h = rw (mode_read x) refl
action_read s (Give x t o) h = rw (mode_read x) refl
action_read s (Rescind x t o) h = rw (mode_read x) refl
action_read s (Create o l i) h = rw (label_read l h.1, label_read i h.2) refl
action_read s (Delete o) h = refl
action_read s (SubjectLevel l) h = rw (label_read l h) refl
action_read s (ObjectLevel o l) h = rw (label_read l h.1) refl

-- the numbers of an action are those of a request of their subject
of_subject : (s : ℕ) (a : Action) → (numbers_of_action s a).subject ≡ s
of_subject s (Get x o) = refl
of_subject s (Release x o) = refl
of_subject s (Give x t o) = refl
of_subject s (Rescind x t o) = refl
of_subject s (Create o l i) = refl
of_subject s (Delete o) = refl
of_subject s (SubjectLevel l) = refl
of_subject s (ObjectLevel o l) = refl

pub request_read : (r : Request) → ActionHasRanges r.action → request_of (numbers_of_request r) ≡ Some r
request_read r h = rw (action_read r.subject r.action h, of_subject r.subject r.action) refl

pub request_apart : (a b : Request) → ActionHasRanges a.action → ActionHasRanges b.action → numbers_of_request a ≡ numbers_of_request b → a ≡ b
request_apart a b h k e = same_Some a b (sym (request_read a h) ∙ ap request_of e ∙ request_read b k)

-- the reply that numbers say
abbrev pub reason_at : ℕ → Reason
reason_at n =
    if n == 1 then Discretionary
    else if n == 2 then Simple
    else if n == 3 then Star
    else if n == 4 then Integrity
    else if n == 5 then Authority
    else if n == 6 then Compatibility
    else if n == 7 then Ceiling
    else if n == 8 then Root
    else Full

abbrev reply_at : ℕ → ℕ → Reply
reply_at n o =
    if n == 0 then Yes
    else if n == 1 then Created o
    else if n == 2 then Undefined
    else No (reason_at (n - 16))

denial_read : (r : Reason) → reply_at (16 + number_of_reason r) 0 ≡ No r
denial_read Discretionary = refl
denial_read Simple = refl
denial_read Star = refl
denial_read Integrity = refl
denial_read Authority = refl
denial_read Compatibility = refl
denial_read Ceiling = refl
denial_read Root = refl
denial_read Full = refl

reply_read : (r : Reply) → reply_at (number_of_reply r) (object_of_reply r) ≡ r
reply_read Yes = refl
reply_read (Created o) = refl
reply_read Undefined = refl
reply_read (No r) = denial_read r

pub reply_apart : (a b : Reply) → number_of_reply a ≡ number_of_reply b → object_of_reply a ≡ object_of_reply b → a ≡ b
reply_apart a b n o = sym (reply_read a) ∙ rw (n, o) (reply_read b)

-- the entry that numbers say
abbrev entry_at : EntryNumbers → Option Entry
entry_at e = having (request_of e.request) (λ r. Some (record { number = e.number; session = e.session; request = r; reply = reply_at e.reply e.object }))

entry_read : (e : Entry) → ActionHasRanges e.request.action → entry_at (numbers_of_entry e) ≡ Some e
entry_read e h = rw (request_read e.request h, reply_read e.reply) refl

pub entry_apart : (a b : Entry) → HasRanges a → HasRanges b → numbers_of_entry a ≡ numbers_of_entry b → a ≡ b
entry_apart a b h k e = same_Some a b (sym (entry_read a h.action) ∙ ap entry_at e ∙ entry_read b k.action)
