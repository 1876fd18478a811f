-- Which entries of a journal are changes: they end what held before.
use Rattle.std.specs.Prelude.{◌≡◌, ℕ, ◌+◌, Bool, true, false, List, [], ◌∷◌}
use Rattle.std.specs.FinSet as set
use Rattle.mls_tables.specs.Triples.{Triple}
use Rattle.mls_state.specs.State.{State}
use Rattle.mls_requests.specs.declared.action.Action.{Action}
use Rattle.mls_requests.specs.declared.action.Action.TheVariants.{Get, Release, Give, Rescind, Create, Delete}
use Rattle.mls_requests.specs.declared.action.Action.TheVariants.{SubjectLevel, ObjectLevel}
use Rattle.mls_requests.specs.declared.reply.Reply.{Reply}
use Rattle.mls_requests.specs.declared.reply.Reply.TheVariants.{Yes, Created, No, Undefined}
use Rattle.mls_requests.specs.declared.entry.Entry.{Entry}

-- Whether an action that is granted takes an access or a permission away, or changes a label: a release, a rescission, a
-- deletion and a change of level do; a get, a give and a creation only add. (own, after MTR-2997's rules of these names)
abbrev pub withdraws : Action → Bool
withdraws (Get x o) = false
withdraws (Release x o) = true
withdraws (Give x t o) = false
withdraws (Rescind x t o) = true
withdraws (Create p l i) = false
withdraws (Delete o) = true
withdraws (SubjectLevel l) = true
withdraws (ObjectLevel o l) = true

-- This where a request is granted, else false. (own)
abbrev pub where_granted : Reply → Bool → Bool
where_granted Yes b = b
where_granted (Created o) b = b
where_granted (No reason) b = false
where_granted Undefined b = false

-- Whether an entry is a change: its request was granted, and takes away or changes a label. (own)
abbrev pub is_change : Entry → Bool
is_change e = where_granted e.reply (withdraws e.request.action)

-- One for true, and none for false. (own)
abbrev pub one_if : Bool → ℕ
one_if true = 1
one_if false = 0

-- How many entries are changes. (own)
abbrev pub changes : List Entry → ℕ
changes [] = 0
changes (e ∷ entries) = one_if (is_change e) + changes entries

-- What one state has another has too: each current access, each permission, and the current labels of subjects. (own)
pub record Keeps (old new : State) : Type 0 where
  pub accesses : (t : Triple) → set.contains old.accesses t ≡ true → set.contains new.accesses t ≡ true
  pub matrix : (t : Triple) → set.contains old.matrix t ≡ true → set.contains new.matrix t ≡ true
  pub current : new.current ≡ old.current
