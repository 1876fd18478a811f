-- Answers whether an access could come about, in their forms.
use Rattle.std.specs.Prelude.{◌≡◌, ℕ, Bool, true, false, List, ◌++◌, Result, Ok, Err}
use Rattle.mls_tables.specs.Triples.{Triple}
use Rattle.mls_requests.specs.declared.action.Action.{Action}
use Rattle.mls_requests.specs.declared.action.Action.TheVariants.{Get}
use Rattle.mls_requests.specs.declared.ask.Ask.{Ask}
use Rattle.mls_requests.specs.declared.ask.Ask.TheVariants.{Submit}
use Rattle.mls_requests.specs.declared.request.Request.{Request}
use Rattle.mls_lines.specs.Names.{Names}
use Rattle.mls_lines.specs.declared.fault.LineFault.{LineFault}
use Rattle.mls_lines.specs.declared.fault.LineFault.TheVariants.{BadForm}
use Rattle.mls_state.specs.State.{State}
use Rattle.mls_rows.specs.declared.form.Form.{Form}
use Rattle.mls_replay.specs.declared.command.CommandFault.TheVariants.{Memory}
use Rattle.mls_replay.specs.declared.question_fault.QuestionFault.{QuestionFault}
use Rattle.mls_replay.specs.declared.question_fault.QuestionFault.TheVariants.{Files, Line, Subject}
use Rattle.mls_explain_text.specs.Question.{question_of}
use Rattle.mls_futures.specs.Futures.{HasLabelsWithin, CouldCome}
use Rattle.mls_could.specs.Actors.{are_known, is_actor}
use Rattle.mls_could.specs.Foreseeing.{NeverComes}
use Rattle.mls_could.specs.declared.choice.Choice.{Choice}
use Rattle.mls_shared_rows.specs.Requests.{requests_bytes}
use Rattle.mls_ways.specs.Brings.{BringsLeanly}
use Rattle.mls_futures_text.specs.Reasons.{AreReasons}
use Rattle.mls_futures_text.specs.Rows.{answer_bytes, reasons_bytes}
use Rattle.mls_futures_text.specs.declared.barrier.Why.{Why}

-- The access that an action of a subject asks for: that of a get. (own)
abbrev pub access_of : ℕ → Action → Result Triple LineFault
access_of s (Get x o) = Ok (s, o, x)
access_of s action = Err BadForm

-- The access that is asked for, by a request of a get. (own)
abbrev pub get_in : Ask → Result Triple LineFault
get_in (Submit r) = access_of r.subject r.action
get_in ask = Err BadForm

-- The access that a line asks for that was read. (own)
abbrev pub get_read : Result Ask LineFault → Result Triple LineFault
get_read (Ok ask) = get_in ask
get_read (Err fault) = Err fault

-- The access that a line asks for, by the names of a start. (own)
abbrev pub get_of : Names → List ℕ → Result Triple LineFault
get_of names line = get_read (question_of names line)

-- The bytes of an answer tell that an access could come about, and the script that brings it about: releases of all
-- that is held, and then requests of actors, each answered yes, of which none can be left out alone. That supposes that
-- the labels are within the bounds, as those of all states are to which journals lead. (own)
pub record RowsOfScript (names : Names) (v : State) (acts : ℕ → Bool) (t : Triple) (form : Form) (told : List ℕ)
    : Type 0 where
  pub could : HasLabelsWithin v → CouldCome v acts t.0 t.1 t.2
  pub releases : List Request
  pub requests : List Request
  pub does : HasLabelsWithin v → BringsLeanly v acts t releases requests
  pub bytes : told ≡ answer_bytes form true ++ requests_bytes names form releases ++ requests_bytes names form requests

-- The bytes of an answer tell that an access never comes about, and each reason. (own)
pub record RowsOfNever (names : Names) (v : State) (acts : ℕ → Bool) (t : Triple) (form : Form) (told : List ℕ)
    : Type 0 where
  pub never : NeverComes v acts t
  pub found : List Why
  pub reasons : AreReasons v acts t found
  pub bytes : told ≡ answer_bytes form false ++ reasons_bytes names form found

-- The bytes of an answer and whether it is positive tell whether an access could come about. (own)
abbrev pub RowsWhether : Names → State → (ℕ → Bool) → Triple → Form → List ℕ → Bool → Type 0
RowsWhether names v acts t form told true = RowsOfScript names v acts t form told
RowsWhether names v acts t form told false = RowsOfNever names v acts t form told

-- The same, whatever those do whom a question has act, by words that name known subjects. (own)
pub record TellsAccess (form : Form) (names : Names) (v : State) (choice : Choice) (words : List (List ℕ))
    (access : Triple) (told : List ℕ) (positive : Bool) : Type 0 where
  pub known : are_known names v words ≡ true
  pub rows : RowsWhether names v (is_actor names v choice words) access form told positive

-- The bytes of an answer and whether it is positive tell whether the access could come about that a line asks for.
-- (own)
pub record TellsWhether (form : Form) (names : Names) (v : State) (choice : Choice) (words : List (List ℕ))
    (line : List ℕ) (told : List ℕ) (positive : Bool) : Type 0 where
  pub access : Triple
  pub asks : get_of names line ≡ Ok access
  pub tells : TellsAccess form names v choice words access told positive

-- Why it isn't told: the line asks for no get, or a word of those who act names no known subject; or memory ran out.
-- (own)
abbrev pub RefusesWhether : Names → State → List (List ℕ) → List ℕ → QuestionFault → Type 0
RefusesWhether names v words line (Line fault) = get_of names line ≡ Err fault
RefusesWhether names v words line Subject = are_known names v words ≡ false
RefusesWhether names v words line (Files Memory) = Unit {0}
RefusesWhether names v words line fault = ⊥
