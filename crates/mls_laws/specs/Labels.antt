-- What a journal does to labels.
use Rattle.std.specs.Prelude.{◌≡◌, ◌⊎◌, ℕ, false, List, slice_get, Some}
use Rattle.std.specs.FinMap as map
use Rattle.std.specs.FinSet as set
use Rattle.mls_labels.specs.Label.{Label}
use Rattle.mls_requests.specs.declared.action.Action.TheVariants.{SubjectLevel, ObjectLevel}
use Rattle.mls_requests.specs.declared.reply.Reply.TheVariants.{Yes}
use Rattle.mls_requests.specs.declared.entry.Entry.{Entry}
use Rattle.mls_state.specs.State.{State}
use Rattle.mls_monitor.specs.Journal.{fold}

-- After a journal an object has the security label that it had, or one to which a granted entry relabels it. (own)
abbrev pub LabelAfter : State → List Entry → ℕ → Type 0
LabelAfter v entries o =
    (map.get (fold v entries).object_label o ≡ map.get v.object_label o)
    ⊎ ((n : ℕ) × (e : Entry) × (l : Label) × (slice_get entries n ≡ Some e) × (e.request.action ≡ ObjectLevel o l)
    × (e.reply ≡ Yes)
    × (map.get (fold v entries).object_label o ≡ Some l))

-- After a journal a subject has the current label that it had, or one to which it moved by a granted entry of its own.
-- (own)
abbrev pub CurrentAfter : State → List Entry → ℕ → Type 0
CurrentAfter v entries s =
    (map.get (fold v entries).current s ≡ map.get v.current s)
    ⊎ ((n : ℕ) × (e : Entry) × (l : Label) × (slice_get entries n ≡ Some e) × (e.request.subject ≡ s)
    × (e.request.action ≡ SubjectLevel l) × (e.reply ≡ Yes) × (map.get (fold v entries).current s ≡ Some l))

-- No entry of a journal is a trusted subject's. (own)
abbrev pub IsByUntrusted : State → List Entry → Type 0
IsByUntrusted v entries =
    (n : ℕ) (e : Entry) → slice_get entries n ≡ Some e → set.contains v.trusted e.request.subject ≡ false
