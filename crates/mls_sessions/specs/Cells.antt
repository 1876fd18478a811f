-- The words in which the current accesses stand, so that a check reads one of them and takes no lock.
use Rattle.std.specs.Prelude.{◌≡◌, ◌≢◌, ℕ, ◌+◌, ◌*◌, ◌/◌, ◌%◌, ◌<◌, Bool, true, ◌==◌, List, [], ◌∷◌}
use Rattle.std.specs.Int.{bit_at}
use Rattle.std.specs.FinSet as set
use Rattle.mls_tables.specs.declared.mode.Mode.{Mode}
use Rattle.mls_tables.specs.Mode.{mode_number}
use Rattle.mls_tables.specs.declared.limits.TheConstants.{MAX_OBJECTS}
use Rattle.mls_state.specs.State.{State, is_active}
use Rattle.mls_requests.specs.declared.entry.Entry.{Entry}
use Rattle.mls_monitor.specs.Journal.{fold}
use Rattle.mls_sessions.specs.declared.gate_table.Note.{Note}

-- The place of the word of a subject and an object, which eight subjects share. (own)
abbrev pub place : ℕ → ℕ → ℕ
place s o = s / 8 * MAX_OBJECTS + o

-- The bit of a subject and a mode in their word. (own)
abbrev pub bit_of : ℕ → Mode → ℕ
bit_of s x = s % 8 * 4 + mode_number x

-- Whether a word has a bit. (own)
abbrev pub has_bit : ℕ → ℕ → Bool
has_bit word k = bit_at word k == 1

-- What a word at this place tells of a state: it is blank, which is 0; or it has, for each subject and object whose
-- place that is, the bits of the modes in which the subject accesses the object. (own)
abbrev pub Tells : State → ℕ → ℕ → Type 0
Tells v i word = word ≢ 0 → (s o : ℕ) (x : Mode) → o < MAX_OBJECTS → place s o ≡ i
    → has_bit word (bit_of s x) ≡ set.contains v.accesses (s, o, x)

-- That the word at a place is this one. (own)
abbrev pub note : ℕ → ℕ → Note
note i w = record { cell = i; word = w }

-- What was noted of the word at this place, last and first, is that it is this one; or nothing was. (own)
abbrev pub Agrees : List Note → ℕ → ℕ → Type 0
Agrees [] i w = Unit {0}
Agrees (n ∷ notes) i w = (i ≡ n.cell → w ≡ n.word) × (i ≢ n.cell → Agrees notes i w)

-- What agrees with the second notes and isn't blank agrees with the first. (own)
abbrev pub Finer : List Note → List Note → Type 0
Finer old new = (i w : ℕ) → w ≢ 0 → Agrees new i w → Agrees old i w

-- Entries were added, and each of so many words that is as noted tells what it told. (own)
abbrev pub Quiet : State → List Entry → List Entry → List Note → ℕ → Type 0
Quiet start old new notes cells = (i w : ℕ) → i < cells → Agrees notes i w → Tells (fold start old) i w
    → Tells (fold start new) i w

-- Entries were added, and this word at this place tells of the state after them; each of so many words at other places
-- that is as noted tells what it told. (own)
pub record OneWord (start : State) (old new : List Entry) (notes : List Note) (cells at word : ℕ) : Type 0 where
  pub now : Tells (fold start new) at word
  pub others : (i w : ℕ) → i ≢ at → i < cells → Agrees notes i w → Tells (fold start old) i w
      → Tells (fold start new) i w

-- Each of the first k words that isn't noted to be blank is that of an object which is active in this state. (own)
abbrev pub OfActive : State → List Note → ℕ → Type 0
OfActive v notes k = (i w : ℕ) → i < k → w ≢ 0 → Agrees notes i w → is_active v (i % MAX_OBJECTS) ≡ true
