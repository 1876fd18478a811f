-- What the lines of a script are answered, and what they leave.
use Rattle.std.specs.Prelude.{ℕ, List, [], ◌∷◌, ◌++◌, length, codes, Bool, true, false, Option, Some, None, Result, Ok}
use Rattle.std.specs.Prelude.{Err}
use Rattle.std.specs.FinSet as set
use Rattle.mls_state.specs.State.{State}
use Rattle.mls_rules.specs.Rules.{reply}
use Rattle.mls_requests.specs.declared.request.Request.{Request}
use Rattle.mls_requests.specs.declared.reply.Reply.{Reply}
use Rattle.mls_requests.specs.declared.reply.Reply.TheVariants.{Yes, Created, No, Undefined}
use Rattle.mls_requests.specs.declared.entry.Entry.{Entry}
use Rattle.mls_monitor.specs.Journal.{Monitor, fold}
use Rattle.mls_requests.specs.declared.ask.Ask.TheVariants.{Submit, Check}
use Rattle.mls_lines.specs.declared.fault.LineFault.{LineFault}
use Rattle.mls_scripts.specs.declared.answer.Answer.{Answer}
use Rattle.mls_scripts.specs.declared.answer.Answer.TheVariants.{Nothing, Fault, Held, Replied}
use Rattle.mls_requests.specs.ReplyWords.{reply_text}
use Rattle.mls_lines.specs.Fault.{fault_text}
use Rattle.mls_lines.specs.Names.{Names}
use Rattle.mls_lines.specs.LineView.{LineView, Blank, Asks}
use Rattle.mls_lines.specs.ScriptLine.{line_of}
use Rattle.mls_lines.specs.Vars.{with_binding}

-- The text that tells whether an access is held. (own)
abbrev pub held_text : Bool → List ℕ
held_text true = codes "held"
held_text false = codes "not held"

-- The bytes of an answer: nothing, or its text with a newline. (own)
abbrev pub answer_bytes : Answer → List ℕ
answer_bytes Nothing = []
answer_bytes (Fault fault) = fault_text fault ++ 10 ∷ []
answer_bytes (Held held) = held_text held ++ 10 ∷ []
answer_bytes (Replied r) = reply_text r ++ 10 ∷ []

-- Where a script stands: the variables bound so far, and the start and the journal of the monitor that it asks. (own)
pub record Standing : Type 0 where
  pub vars : List (List ℕ × ℕ)
  pub start : State
  pub entries : List Entry

-- Where a script stands that has bound these variables and asks this monitor. (own)
abbrev pub standing_of : List (List ℕ × ℕ) → Monitor → Standing
standing_of vars m = record { vars = vars; start = m.start; entries = m.entries }

-- The state that the journal has led to. (own)
abbrev pub state_at : Standing → State
state_at s = fold s.start s.entries

-- The entry that a request adds. (own)
abbrev pub entry_for : ℕ → Standing → Request → Entry
entry_for session s r =
    record { number = length s.entries; session = session; reply = reply (state_at s) r; request = r }

-- What is answered to what a line says. (own)
abbrev pub said_to : Standing → Result LineView LineFault → Answer
said_to s (Err fault) = Fault fault
said_to s (Ok Blank) = Nothing
said_to s (Ok (Asks bind (Check t o x))) = Held (set.contains (state_at s).accesses (t, o, x))
said_to s (Ok (Asks bind (Submit r))) = Replied (reply (state_at s) r)

-- The variables after a request was replied to: where its line binds one and an object was made, that one is bound to
-- it. (own)
abbrev pub vars_after : List (List ℕ × ℕ) → Option (List ℕ) → Reply → List (List ℕ × ℕ)
vars_after vars None r = vars
vars_after vars (Some name) Yes = vars
vars_after vars (Some name) (Created o) = with_binding vars name o
vars_after vars (Some name) (No reason) = vars
vars_after vars (Some name) Undefined = vars

-- What a line leaves: a request its entry, and its variable bound where it has one and made an object; all else
-- nothing. (own)
abbrev pub left_by : ℕ → Standing → Result LineView LineFault → Standing
left_by session s (Err fault) = s
left_by session s (Ok Blank) = s
left_by session s (Ok (Asks bind (Check t o x))) = s
left_by session s (Ok (Asks bind (Submit r))) =
    record {
      vars = vars_after s.vars bind (reply (state_at s) r);
      start = s.start;
      entries = s.entries
          ++ entry_for session s r ∷ [];
    }

-- The bytes of the answer to a line. (own)
unfoldable pub answer_to : Names → Standing → List ℕ → List ℕ
answer_to names s line = answer_bytes (said_to s (line_of names s.vars line))

-- Where a script stands after a line. (own)
unfoldable pub after_line : Names → ℕ → Standing → List ℕ → Standing
after_line names session s line = left_by session s (line_of names s.vars line)

-- Where a script stands after lines. (own)
unfoldable pub after_lines : Names → ℕ → Standing → List (List ℕ) → Standing
after_lines names session s [] = s
after_lines names session s (line ∷ lines) = after_lines names session (after_line names session s line) lines

-- The answers to lines, in their order. (own)
unfoldable pub answers : Names → ℕ → Standing → List (List ℕ) → List ℕ
answers names session s [] = []
answers names session s (line ∷ lines) = answer_to names s line
    ++ answers names session (after_line names session s line) lines
