-- The forms of a script's line: which token stands where, before it is asked what the tokens name.
use Rattle.std.specs.Prelude.{ℕ, List, [], ◌∷◌, codes}
use Rattle.mls_tables.specs.declared.mode.Mode.{Mode}
use Rattle.mls_requests.specs.ActionWords.{action_word}
use Rattle.mls_requests.specs.ModeWords.{mode_word}
use Rattle.mls_requests.specs.declared.action_word.ActionWord.TheVariants as word
use Rattle.mls_lines.specs.Words.{check_word}

-- The forms, each with the tokens and the modes that fill its places in their order. (own)
pub data Form : Type 0 where
  Empty : Form
  Note : List ℕ → List (List ℕ) → Form
  Check : List ℕ → Mode → List ℕ → Form
  Get : List ℕ → Mode → List ℕ → Form
  Release : List ℕ → Mode → List ℕ → Form
  Give : List ℕ → Mode → List ℕ → List ℕ → Form
  Rescind : List ℕ → Mode → List ℕ → List ℕ → Form
  Create : List ℕ → List ℕ → List ℕ → List ℕ → Form
  Bind : List ℕ → List ℕ → List ℕ → List ℕ → List ℕ → Form
  Delete : List ℕ → List ℕ → Form
  Level : List ℕ → List ℕ → Form
  Relabel : List ℕ → List ℕ → List ℕ → Form

-- The tokens of a line of each form. (own)
abbrev pub tokens_in : Form → List (List ℕ)
-- none
tokens_in Empty = []
-- `;`, and whatever stands after it
tokens_in (Note note rest) = (59 ∷ note) ∷ rest
-- `SUBJ check MODE OBJ`
tokens_in (Check subj x obj) = subj ∷ check_word ∷ mode_word x ∷ obj ∷ []
-- `SUBJ get-MODE OBJ`
tokens_in (Get subj x obj) = subj ∷ action_word (word.Get x) ∷ obj ∷ []
-- `SUBJ release MODE OBJ`
tokens_in (Release subj x obj) = subj ∷ action_word word.Release ∷ mode_word x ∷ obj ∷ []
-- `SUBJ give MODE SUBJ OBJ`
tokens_in (Give subj x to obj) = subj ∷ action_word word.Give ∷ mode_word x ∷ to ∷ obj ∷ []
-- `SUBJ rescind MODE SUBJ OBJ`
tokens_in (Rescind subj x of obj) = subj ∷ action_word word.Rescind ∷ mode_word x ∷ of ∷ obj ∷ []
-- `SUBJ create OBJ LABEL LABEL`
tokens_in (Create subj obj sec int) = subj ∷ action_word word.Create ∷ obj ∷ sec ∷ int ∷ []
-- `$NAME = SUBJ create OBJ LABEL LABEL`
tokens_in (Bind name subj obj sec int) = (36 ∷ name) ∷ codes "=" ∷ subj ∷ action_word word.Create ∷ obj ∷ sec ∷ int ∷ []
-- `SUBJ delete OBJ`
tokens_in (Delete subj obj) = subj ∷ action_word word.Delete ∷ obj ∷ []
-- `SUBJ level LABEL`
tokens_in (Level subj lab) = subj ∷ action_word word.Level ∷ lab ∷ []
-- `SUBJ relabel OBJ LABEL`
tokens_in (Relabel subj obj lab) = subj ∷ action_word word.Relabel ∷ obj ∷ lab ∷ []

-- A part of a line: the name of the variable that is bound, or a token that stands for a subject, for an object, for a
-- security label or for an integrity label. (own)
pub data Part : Type 0 where
  Variable : List ℕ → Part
  Subject : List ℕ → Part
  Object : List ℕ → Part
  Security : List ℕ → Part
  Integrity : List ℕ → Part

-- The parts of a line of each form. (own)
abbrev pub parts_in : Form → List Part
parts_in Empty = []
parts_in (Note note rest) = []
parts_in (Check subj x obj) = Subject subj ∷ Object obj ∷ []
parts_in (Get subj x obj) = Subject subj ∷ Object obj ∷ []
parts_in (Release subj x obj) = Subject subj ∷ Object obj ∷ []
parts_in (Give subj x to obj) = Subject subj ∷ Subject to ∷ Object obj ∷ []
parts_in (Rescind subj x of obj) = Subject subj ∷ Subject of ∷ Object obj ∷ []
parts_in (Create subj obj sec int) = Subject subj ∷ Object obj ∷ Security sec ∷ Integrity int ∷ []
parts_in (Bind name subj obj sec int) = Variable name ∷ Subject subj ∷ Object obj ∷ Security sec ∷ Integrity int ∷ []
parts_in (Delete subj obj) = Subject subj ∷ Object obj ∷ []
parts_in (Level subj lab) = Subject subj ∷ Security lab ∷ []
parts_in (Relabel subj obj lab) = Subject subj ∷ Object obj ∷ Security lab ∷ []
