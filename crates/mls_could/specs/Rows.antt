-- Answers of what could come about of an object, in their forms.
use Rattle.std.specs.Prelude.{◌≡◌, ℕ, Bool, true, false, nat_lt, List, [], All, Option, Some, None}
use Rattle.std.specs.List.{flat_map, list_any}
use Rattle.mls_tables.specs.declared.mode.Mode.{Mode}
use Rattle.mls_lines.specs.Names.{Names}
use Rattle.mls_state.specs.State.{State, is_subject, is_active}
use Rattle.mls_rows.specs.Rows.{row_bytes}
use Rattle.mls_rows.specs.declared.form.Form.{Form}
use Rattle.mls_replay.specs.declared.command.CommandFault.TheVariants.{Memory}
use Rattle.mls_replay.specs.declared.question_fault.QuestionFault.{QuestionFault}
use Rattle.mls_replay.specs.declared.question_fault.QuestionFault.TheVariants.{Files, Subject, Object}
use Rattle.mls_replay.specs.Naming.{object_word}
use Rattle.mls_could.specs.Actors.{are_known, is_actor}
use Rattle.mls_could.specs.Foreseeing.{IsForeseen, all_pairs, pairs_of}
use Rattle.mls_could.specs.Words.{foreseen_line, foreseen_members, is_open}
use Rattle.mls_could.specs.declared.choice.Choice.{Choice}
use Rattle.mls_could.specs.declared.foreseen.Foreseen.{Foreseen}

-- The rows of what becomes of accesses, in a form. (own)
abbrev pub foreseen_bytes : Names → Form → List Foreseen → List ℕ
foreseen_bytes names form found =
    flat_map (λ f. row_bytes form (foreseen_line names f) (foreseen_members names f)) found

-- Whether one of the accesses is held or could be. (own)
abbrev pub any_open : List Foreseen → Bool
any_open found = list_any (λ f. is_open f.future) found

-- The bytes of an answer and whether it is positive tell what becomes of the accesses to an active object: of exactly
-- all pairs of a known subject and a mode that is asked for, in their order, what is so. (own)
pub record RowsOfActive (names : Names) (v : State) (acts : ℕ → Bool) (o : ℕ) (asked : Option Mode) (form : Form)
    (told : List ℕ) (positive : Bool) : Type 0 where
  pub subjects : ℕ
  pub known : (s : ℕ) → is_subject v s ≡ nat_lt s subjects
  pub found : List Foreseen
  pub pairs : pairs_of found ≡ all_pairs asked subjects
  pub each : All (IsForeseen v acts o) found
  pub bytes : told ≡ foreseen_bytes names form found
  pub open_one : positive ≡ any_open found

-- The same of an object that is active or isn't; one that isn't has no row. (own)
abbrev pub RowsWhether : Bool → Names → State → (ℕ → Bool) → ℕ → Option Mode → Form → List ℕ → Bool → Type 0
RowsWhether true names v acts o asked form told positive = RowsOfActive names v acts o asked form told positive
RowsWhether false names v acts o asked form told positive = (told ≡ []) × (positive ≡ false)

-- The bytes of an answer and whether it is positive tell what becomes of the accesses to an object. (own)
abbrev pub RowsOfCould : Names → State → (ℕ → Bool) → ℕ → Option Mode → Form → List ℕ → Bool → Type 0
RowsOfCould names v acts o asked form told positive =
    RowsWhether (is_active v o) names v acts o asked form told positive

-- The bytes of an answer and whether it is positive tell what becomes of the accesses to the object that a word names,
-- whatever those do whom a question has act. (own)
pub record TellsCould (form : Form) (names : Names) (v : State) (choice : Choice) (words : List (List ℕ))
    (word : List ℕ) (asked : Option Mode) (told : List ℕ) (positive : Bool) : Type 0 where
  pub object : ℕ
  pub named : object_word names word ≡ Some object
  pub known : are_known names v words ≡ true
  pub rows : RowsOfCould names v (is_actor names v choice words) object asked form told positive

-- Why it isn't told: a word of those who act names no known subject, or the object's word names none; or memory ran
-- out. (own)
abbrev pub RefusesCould : Names → State → List (List ℕ) → List ℕ → QuestionFault → Type 0
RefusesCould names v words word Subject = are_known names v words ≡ false
RefusesCould names v words word Object = object_word names word ≡ None
RefusesCould names v words word (Files Memory) = Unit {0}
RefusesCould names v words word fault = ⊥
