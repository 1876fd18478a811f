-- What questions about one state are answered, and why they aren't.
use Rattle.std.specs.Prelude.{◌≡◌, ℕ, Bool, not, ◌==◌, List, length, Option, Some, None, Ok, Err}
use Rattle.mls_tables.specs.declared.mode.Mode.{Mode}
use Rattle.mls_lines.specs.Names.{Names}
use Rattle.mls_requests.specs.declared.ask.Ask.{Ask}
use Rattle.mls_requests.specs.declared.ask.Ask.TheVariants.{Submit}
use Rattle.mls_requests.specs.declared.entry.Entry.{Entry}
use Rattle.mls_state.specs.State.{State}
use Rattle.mls_explain_text.specs.AnswerRows.{response_bytes}
use Rattle.mls_explain_text.specs.ExplainRows.{ExplainsIn}
use Rattle.mls_explain_text.specs.Files.{modes_asked}
use Rattle.mls_explain_text.specs.Question.{question_of}
use Rattle.mls_explain_text.specs.Responses.{response_to, is_positive}
use Rattle.mls_explain_text.specs.WhoRows.{RowsOfWho}
use Rattle.mls_replay.specs.declared.command.CommandFault.TheVariants.{Memory}
use Rattle.mls_replay.specs.Naming.{object_word, subject_word}
use Rattle.mls_replay.specs.declared.question_fault.QuestionFault.{QuestionFault}
use Rattle.mls_replay.specs.declared.question_fault.QuestionFault.TheVariants.{Files, NoEntry, Line, Subject, Object}
use Rattle.mls_review.specs.PowerRows.{powers_bytes}
use Rattle.mls_review.specs.Powers.{powers}
use Rattle.mls_rows.specs.declared.form.Form.{Form}
use Rattle.mls_review.specs.declared.authority.Asked.{Asked}
use Rattle.mls_seen.specs.Files.{Seen}

-- Bytes and whether the answer is positive are the answer to what is asked in a state. (own)
pub record AnswersAsk (form : Form) (v : State) (asked : Ask) (told : List ℕ) (positive : Bool) : Type 0 where
  pub bytes : told ≡ response_bytes form (response_to v asked)
  pub granted : positive ≡ is_positive (response_to v asked)

-- Bytes and whether the answer is positive are the answer to a line. (own)
pub record AnswersLine (form : Form) (names : Names) (v : State) (line told : List ℕ) (positive : Bool) : Type 0 where
  pub asked : Ask
  pub reads : question_of names line ≡ Ok asked
  pub answers : AnswersAsk form v asked told positive

-- Bytes and whether the answer is positive explain what is asked in a state. (own)
pub record ExplainsAsk (form : Form) (names : Names) (v : State) (asked : Ask) (told : List ℕ) (positive : Bool)
    : Type 0 where
  pub bytes : ExplainsIn form names v asked told
  pub granted : positive ≡ is_positive (response_to v asked)

-- Bytes and whether the answer is positive explain a line. (own)
pub record ExplainsLine (form : Form) (names : Names) (v : State) (line told : List ℕ) (positive : Bool)
    : Type 0 where
  pub asked : Ask
  pub reads : question_of names line ≡ Ok asked
  pub explains : ExplainsAsk form names v asked told positive

-- Bytes and whether the answer is positive explain the request of the next entry. (own)
pub record ExplainsNext (form : Form) (r : Seen) (told : List ℕ) (positive : Bool) : Type 0 where
  pub entry : Entry
  pub next : r.next ≡ Some entry
  pub explains : ExplainsAsk form r.names r.state (Submit entry.request) told positive

-- Bytes and whether the answer is positive explain a line where there is one, else the next entry. (own)
abbrev pub ExplainsEither : Form → Seen → Option (List ℕ) → List ℕ → Bool → Type 0
ExplainsEither form r (Some line) told positive = ExplainsLine form r.names r.state line told positive
ExplainsEither form r None told positive = ExplainsNext form r told positive

-- Bytes and whether the answer is positive tell who may get what of the object that a word names. (own)
pub record TellsWord (form : Form) (names : Names) (v : State) (word : List ℕ) (mode : Option Mode) (told : List ℕ)
    (positive : Bool) : Type 0 where
  pub object : ℕ
  pub named : object_word names word ≡ Some object
  pub who : RowsOfWho names v object (modes_asked mode) form told positive

-- Bytes and whether the answer is positive tell what who is asked for may change. (own)
pub record TellsPowers (form : Form) (names : Names) (v : State) (asked : Asked) (told : List ℕ) (positive : Bool)
    : Type 0 where
  pub bytes : told ≡ powers_bytes form names v asked
  pub any : positive ≡ not (length (powers v asked) == 0)

-- Who is asked for: the subject that a word names, or all where there is no word. (own)
abbrev pub IsAskedFor : Names → Option (List ℕ) → Option ℕ → Type 0
IsAskedFor names None subject = subject ≡ None
IsAskedFor names (Some word) subject = (s : ℕ) × (subject_word names word ≡ Some s) × (subject ≡ Some s)

-- Bytes and whether the answer is positive tell what the subject may change that a word names, or each of all. (own)
pub record TellsChanges (form : Form) (names : Names) (v : State) (word : Option (List ℕ)) (downgrades : Bool)
    (told : List ℕ) (positive : Bool) : Type 0 where
  pub subject : Option ℕ
  pub named : IsAskedFor names word subject
  pub granted : TellsPowers form names v (record { subject = subject; downgrades = downgrades }) told positive

-- Why a line isn't answered: its fault, or memory ran out. (own)
abbrev pub RefusesLine : Names → List ℕ → QuestionFault → Type 0
RefusesLine names line (Line cause) = question_of names line ≡ Err cause
RefusesLine names line (Files Memory) = Unit {0}
RefusesLine names line fault = ⊥

-- Why the next entry isn't explained: there is none, or it isn't known; or memory ran out. (own)
abbrev pub RefusesNext : Seen → QuestionFault → Type 0
RefusesNext r (NoEntry number) = (number ≡ r.number) × (r.next ≡ None)
RefusesNext r (Files Memory) = Unit {0}
RefusesNext r fault = ⊥

-- Why neither a line nor the next entry is explained. (own)
abbrev pub RefusesEither : Seen → Option (List ℕ) → QuestionFault → Type 0
RefusesEither r (Some line) fault = RefusesLine r.names line fault
RefusesEither r None fault = RefusesNext r fault

-- Why it isn't told who may get an object: the word names none, or memory ran out. (own)
abbrev pub RefusesWord : Names → List ℕ → QuestionFault → Type 0
RefusesWord names word Object = object_word names word ≡ None
RefusesWord names word (Files Memory) = Unit {0}
RefusesWord names word fault = ⊥

-- Why it isn't told what a subject may change: the word names none, or memory ran out. (own)
abbrev pub RefusesSubject : Names → Option (List ℕ) → QuestionFault → Type 0
RefusesSubject names (Some word) Subject = subject_word names word ≡ None
RefusesSubject names word (Files Memory) = Unit {0}
RefusesSubject names word fault = ⊥
