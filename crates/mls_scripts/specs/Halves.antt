-- A script's step in two halves: what it asks next, and what it makes of the answer. The monitor's own step stands
-- between them.
use Rattle.std.specs.Prelude.{◌≡◌, ℕ, List, [], ◌∷◌, ◌++◌, Option, Some, None, Result, Ok, Err}
use Rattle.std.specs.FinSet as set
use Rattle.mls_requests.specs.declared.ask.Ask.{Ask}
use Rattle.mls_requests.specs.declared.ask.Ask.TheVariants.{Submit, Check}
use Rattle.mls_lines.specs.declared.fault.LineFault.{LineFault}
use Rattle.mls_lines.specs.Names.{Names}
use Rattle.mls_lines.specs.LineView.{LineView, Blank, Asks}
use Rattle.mls_lines.specs.ScriptLine.{line_of}
use Rattle.mls_monitor.specs.declared.feed.Answer.{Answer as Told}
use Rattle.mls_monitor.specs.declared.feed.Answer.TheVariants as told
use Rattle.mls_scripts.specs.declared.answer.Answer.{Answer}
use Rattle.mls_scripts.specs.declared.answer.Answer.TheVariants.{Nothing, Fault, Held, Replied}
use Rattle.mls_scripts.specs.Script.{Standing, state_at, entry_for, answer_bytes, vars_after, left_by, answers}
use Rattle.mls_scripts.specs.Script.{after_lines}

-- What a line asks, and the variable that it binds, where it has one. (own)
abbrev pub Asking : Type 0
Asking = Option (List ℕ) × Ask

-- What a line asks, where it asks something. (own)
abbrev pub ask_in : Result LineView LineFault → Option Asking
ask_in (Err fault) = None
ask_in (Ok Blank) = None
ask_in (Ok (Asks bind a)) = Some (bind, a)

-- The bytes of the answer to a line that asks nothing. (own)
abbrev pub aside : Result LineView LineFault → List ℕ
aside (Err fault) = answer_bytes (Fault fault)
aside (Ok Blank) = answer_bytes Nothing
aside (Ok (Asks bind a)) = []

-- Where a script halts: the answers to the lines on the way, which ask nothing; what is asked, where the script doesn't
-- end; and the lines after that. (own)
pub record Halt : Type 0 where
  pub text : List ℕ
  pub asks : Option Asking
  pub rest : List (List ℕ)

-- Where a script halts after a line that asks this or nothing, by where it halts from the lines after it. (own)
abbrev pub halt_by : Option Asking → List ℕ → List (List ℕ) → Halt → Halt
halt_by None text lines later = record { text = text ++ later.text; asks = later.asks; rest = later.rest }
halt_by (Some q) text lines later = record { text = text; asks = Some q; rest = lines }

-- The first half: where a script with these variables halts from these lines on. (own)
unfoldable pub next_of : Names → List (List ℕ × ℕ) → List (List ℕ) → Halt
next_of names vars [] = record { text = []; asks = None; rest = [] }
next_of names vars (line ∷ lines) =
    halt_by (ask_in (line_of names vars line)) (aside (line_of names vars line)) lines (next_of names vars lines)

-- What an answer is to an ask: one of another kind than the ask is none. (own)
abbrev pub heard_by : Ask → Told → Answer
heard_by (Submit r) (told.Entry e) = Replied e.reply
heard_by (Submit r) (told.Held held) = Nothing
heard_by (Check t o x) (told.Entry e) = Nothing
heard_by (Check t o x) (told.Held held) = Held held

-- What an answer is to what was asked, if anything was: to nothing it is none. (own)
abbrev pub heard : Option Ask → Told → Answer
heard None answer = Nothing
heard (Some a) answer = heard_by a answer

-- The variables after an answer to a line that binds this one, or none. (own)
abbrev pub vars_told : List (List ℕ × ℕ) → Option (List ℕ) → Answer → List (List ℕ × ℕ)
vars_told vars bind Nothing = vars
vars_told vars bind (Fault fault) = vars
vars_told vars bind (Held held) = vars
vars_told vars bind (Replied r) = vars_after vars bind r

-- What the monitor answers to an ask of a script that stands so. (own)
abbrev pub told_by : ℕ → Standing → Ask → Told
told_by session s (Submit r) = told.Entry (entry_for session s r)
told_by session s (Check t o x) = told.Held (set.contains (state_at s).accesses (t, o, x))

-- Where a script stands after the monitor answered this. (own)
abbrev pub after_ask : ℕ → Standing → Asking → Standing
after_ask session s q = left_by session s (Ok (Asks q.0 q.1))

-- A script that halts so, and asks this, is answered by its halves: the answers on the way, that to the ask, and those
-- to the lines after it, where the variables are those that the answer leaves. (own)
pub record ByHalves (names : Names) (session : ℕ) (s : Standing) (lines : List (List ℕ)) (h : Halt)
    (q : Asking) : Type 0 where
  pub text : answers names session s lines
      ≡ h.text ++ answer_bytes (heard_by q.1 (told_by session s q.1))
      ++ answers names session (after_ask session s q) h.rest
  pub stands : after_lines names session s lines ≡ after_lines names session (after_ask session s q) h.rest
  pub vars : (after_ask session s q).vars ≡ vars_told s.vars q.0 (heard_by q.1 (told_by session s q.1))
