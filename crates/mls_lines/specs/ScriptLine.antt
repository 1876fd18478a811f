-- What a line of a script asks, by cases on its tokens.
use Rattle.std.specs.Prelude.{ℕ, List, [], ◌∷◌, if◌then◌else◌, Option, Some, None, Result, Ok, Err, ◌==◌, ◌&&◌, nat_lt}
use Rattle.std.specs.Prelude.{length, codes}
use Rattle.std.specs.Str.{bytes_eq}
use Rattle.mls_labels.specs.Label.{Label}
use Rattle.mls_labels.specs.Names.{is_name}
use Rattle.mls_labels.specs.Reading.{place_of}
use Rattle.mls_tables.specs.declared.mode.Mode.{Mode}
use Rattle.mls_requests.specs.declared.action.Action.{Action}
use Rattle.mls_requests.specs.declared.action.Action.TheVariants as action
use Rattle.mls_requests.specs.declared.action_word.ActionWord.{ActionWord}
use Rattle.mls_requests.specs.declared.action_word.ActionWord.TheVariants as word
use Rattle.mls_requests.specs.ActionWords.{action_word}
use Rattle.mls_requests.specs.ModeWords.{read_mode}
use Rattle.mls_requests.specs.declared.ask.Ask.{Ask}
use Rattle.mls_requests.specs.declared.ask.Ask.TheVariants as ask
use Rattle.mls_lines.specs.declared.fault.LineFault.{LineFault}
use Rattle.mls_lines.specs.declared.fault.LineFault.TheVariants.{BadForm, UnknownName}
use Rattle.mls_lines.specs.declared.line.TheConstants.{MAX_LINE}
use Rattle.mls_lines.specs.declared.command.Word.{Word}
use Rattle.mls_lines.specs.declared.command.Word.TheVariants.{Check, Action as Asked}
use Rattle.mls_lines.specs.Fault.{both}
use Rattle.mls_lines.specs.Labels.{label_named}
pub use Rattle.mls_lines.specs.LineView.{LineView, Blank, Asks, said_by, line_view, submits}
use Rattle.mls_lines.specs.Names.{Names, bound_to}
use Rattle.mls_lines.specs.Numbers.{number_of}
use Rattle.mls_lines.specs.Tokens.{tokens_of, one_of, two_of, three_of, name_of}
use Rattle.mls_lines.specs.Words.{word_of}

-- The number that was found for a name, or the fault that the name is unknown. (own)
abbrev pub known : Option ℕ → Result ℕ LineFault
known None = Err UnknownName
known (Some n) = Ok n

-- The number after a `#`, or the fault that there is none. (own)
abbrev pub numbered : Option ℕ → Result ℕ LineFault
numbered None = Err BadForm
numbered (Some n) = Ok n

-- The subject of a name. (own)
abbrev pub subject_named : Names → List ℕ → Result ℕ LineFault
subject_named names token = if is_name token then known (place_of names.subjects token) else Err BadForm

-- The subject that a token names: a NAME, or `#DEC` for the subject of that number, known or not. (own)
abbrev pub subject_of : Names → List ℕ → Result ℕ LineFault
subject_of names [] = Err BadForm
subject_of names (b ∷ token) = if b == 35 then numbered (number_of token) else subject_named names (b ∷ token)

-- The object of a name. (own)
abbrev pub object_named : Names → List ℕ → Result ℕ LineFault
object_named names token = if is_name token then known (place_of names.objects token) else Err BadForm

-- The object that a variable is bound to. (own)
abbrev pub variable_of : List (List ℕ × ℕ) → List ℕ → Result ℕ LineFault
variable_of vars name = if is_name name then known (bound_to name vars) else Err BadForm

-- The object that a token names: a NAME, `#DEC` for the object of that number, known or not, or `$NAME` for what is
-- bound. (own)
abbrev pub object_of : Names → List (List ℕ × ℕ) → List ℕ → Result ℕ LineFault
object_of names vars [] = Err BadForm
object_of names vars (b ∷ token) =
    if b == 35 then numbered (number_of token)
    else if b == 36 then variable_of vars token
    else object_named names (b ∷ token)

-- The operand of `get-execute` and the like: `OBJ`. (own)
abbrev pub object_operand : Names → List (List ℕ × ℕ) → Option (List ℕ) → Result ℕ LineFault
object_operand names vars None = Err BadForm
object_operand names vars (Some token) = object_of names vars token

-- A mode and what stands after it, where the mode's token is a mode's word. (own)
abbrev pub with_mode : {X : Type 0} → Option Mode → Result X LineFault → Result (Mode × X) LineFault
with_mode None part = Err BadForm
with_mode (Some x) (Ok part) = Ok (x, part)
with_mode (Some x) (Err f) = Err f

-- The operands of `release` and `check`: `MODE OBJ`. (own)
abbrev pub mode_and_object : Names → List (List ℕ × ℕ) → Option (List ℕ × List ℕ) → Result (Mode × ℕ) LineFault
mode_and_object names vars None = Err BadForm
mode_and_object names vars (Some p) = with_mode (read_mode p.0) (object_of names vars p.1)

-- The operands of `give` and `rescind`: `MODE SUBJ OBJ`. (own)
abbrev pub cell_operands : Names → List (List ℕ × ℕ) → Option (List ℕ × List ℕ × List ℕ)
    → Result (Mode × (ℕ × ℕ)) LineFault
cell_operands names vars None = Err BadForm
cell_operands names vars (Some p) = with_mode (read_mode p.0) (both (subject_of names p.1) (object_of names vars p.2))

-- The operands of `create`: `OBJ LABEL LABEL`, the parent, the security label and the integrity label. (own)
abbrev pub create_operands : Names → List (List ℕ × ℕ) → Option (List ℕ × List ℕ × List ℕ)
    → Result (ℕ × (Label × Label)) LineFault
create_operands names vars None = Err BadForm
create_operands names vars (Some p) =
    both (object_of names vars p.0) (both (label_named names.security p.1) (label_named names.integrity p.2))

-- The operand of `level`: `LABEL`, a security label. (own)
abbrev pub level_operand : Names → Option (List ℕ) → Result Label LineFault
level_operand names None = Err BadForm
level_operand names (Some token) = label_named names.security token

-- The operands of `relabel`: `OBJ LABEL`, a security label. (own)
abbrev pub relabel_operands : Names → List (List ℕ × ℕ) → Option (List ℕ × List ℕ) → Result (ℕ × Label) LineFault
relabel_operands names vars None = Err BadForm
relabel_operands names vars (Some p) = both (object_of names vars p.0) (label_named names.security p.1)

-- What a part without a fault makes. (own)
abbrev pub made_of : {X Y : Type 0} → (X → Y) → Result X LineFault → Result Y LineFault
made_of f (Ok x) = Ok (f x)
made_of f (Err fault) = Err fault

-- What a word and its operands ask for. (own)
abbrev pub action_of : Names → List (List ℕ × ℕ) → List (List ℕ) → ActionWord → Result Action LineFault
action_of names vars operands (word.Get x) = made_of (λ o. action.Get x o) (object_operand names vars (one_of operands))
action_of names vars operands word.Release =
    made_of (λ p. action.Release p.0 p.1) (mode_and_object names vars (two_of operands))
action_of names vars operands word.Give =
    made_of (λ p. action.Give p.0 p.1.0 p.1.1) (cell_operands names vars (three_of operands))
action_of names vars operands word.Rescind =
    made_of (λ p. action.Rescind p.0 p.1.0 p.1.1) (cell_operands names vars (three_of operands))
action_of names vars operands word.Create =
    made_of (λ p. action.Create p.0 p.1.0 p.1.1) (create_operands names vars (three_of operands))
action_of names vars operands word.Delete = made_of (λ o. action.Delete o) (object_operand names vars (one_of operands))
action_of names vars operands word.Level = made_of (λ l. action.SubjectLevel l) (level_operand names (one_of operands))
action_of names vars operands word.Relabel =
    made_of (λ p. action.ObjectLevel p.0 p.1) (relabel_operands names vars (two_of operands))

-- The request of a subject for an action, where both were read. (own)
abbrev pub submitted : Result ℕ LineFault → Result Action LineFault → Result Ask LineFault
submitted subject act = made_of (λ p. submits p.0 p.1) (both subject act)

-- What a subject, a word and its operands ask. (own)
abbrev pub ask_of : Names → List (List ℕ × ℕ) → Result ℕ LineFault → List (List ℕ) → Word → Result Ask LineFault
ask_of names vars subject operands Check =
    made_of (λ p. ask.Check p.0 p.1.1 p.1.0) (both subject (mode_and_object names vars (two_of operands)))
ask_of names vars subject operands (Asked w) = submitted subject (action_of names vars operands w)

-- What a line asks that binds this variable, or none. (own)
abbrev pub asked : Option (List ℕ) → Result Ask LineFault → Result LineView LineFault
asked bind (Ok a) = Ok (Asks bind a)
asked bind (Err f) = Err f

-- What a line asks that doesn't bind a variable, where the word is one. (own)
abbrev pub command_of : Names → List (List ℕ × ℕ) → List ℕ → List (List ℕ) → Option Word → Result LineView LineFault
command_of names vars subject operands None = Err BadForm
command_of names vars subject operands (Some w) = asked None (ask_of names vars (subject_of names subject) operands w)

-- What stands after a subject: a word and its operands. (own)
abbrev pub command_line : Names → List (List ℕ × ℕ) → List ℕ → List (List ℕ) → Result LineView LineFault
command_line names vars subject [] = Err BadForm
command_line names vars subject (w ∷ operands) = command_of names vars subject operands (word_of w)

-- The subject and the operands of a line that binds: after its variable stand `= SUBJ create` and the operands. (own)
abbrev pub created_by : List (List ℕ) → Option (List ℕ × List (List ℕ))
created_by [] = None
created_by (e ∷ []) = None
created_by (e ∷ subject ∷ []) = None
created_by (e ∷ subject ∷ w ∷ operands) =
    if bytes_eq e (codes "=") && bytes_eq w (action_word word.Create) then Some (subject, operands) else None

-- What a line asks that binds a variable, where its name is one and what stands after it is of that form. (own)
abbrev pub binding_line : Names → List (List ℕ × ℕ) → Option (List ℕ) → Option (List ℕ × List (List ℕ))
    → Result LineView LineFault
binding_line names vars None parts = Err BadForm
binding_line names vars (Some name) None = Err BadForm
binding_line names vars (Some name) (Some p) =
    asked (Some name) (submitted (subject_of names p.0) (action_of names vars p.1 word.Create))

-- What a first token says with those after it: `;` begins a note, `$` a variable to bind, and all else is a subject.
-- (own)
abbrev pub said_first : Names → List (List ℕ × ℕ) → List ℕ → List (List ℕ) → Result LineView LineFault
said_first names vars [] rest = command_line names vars [] rest
said_first names vars (b ∷ token) rest =
    if b == 59 then Ok Blank
    else if b == 36 then binding_line names vars (name_of token) (created_by rest)
    else command_line names vars (b ∷ token) rest

-- What tokens say. (own)
abbrev pub said_of : Names → List (List ℕ × ℕ) → List (List ℕ) → Result LineView LineFault
said_of names vars [] = Ok Blank
said_of names vars (token ∷ rest) = said_first names vars token rest

-- What a line says: at most 20,000 bytes, and then what its tokens say. (own)
abbrev pub line_of : Names → List (List ℕ × ℕ) → List ℕ → Result LineView LineFault
line_of names vars line = if nat_lt MAX_LINE (length line) then Err BadForm else said_of names vars (tokens_of line)
