-- Whom a line asks for, what it says, what it is answered and what it leaves, by the protocol of a service.
use Rattle.std.specs.Prelude.{◌≡◌, ℕ, ◌+◌, List, [], ◌∷◌, ◌++◌, codes, take, Bool, true, false, ◌==◌, ◌&&◌, ◌||◌}
use Rattle.std.specs.Prelude.{if◌then◌else◌, Option, Some, None, Result, Ok, Err}
use Rattle.std.specs.Fmt.{decimal}
use Rattle.mls_facts.specs.Decimals.{decimal_within}
use Rattle.mls_requests.specs.declared.ask.Ask.TheVariants.{Submit, Check}
use Rattle.mls_requests.specs.declared.entry.Entry.{Entry}
use Rattle.mls_requests.specs.ReplyWords.{reply_text}
use Rattle.mls_journal.specs.EntryText.{entry_line}
use Rattle.mls_lines.specs.declared.fault.LineFault.{LineFault}
use Rattle.mls_lines.specs.declared.fault.LineFault.TheVariants.{BadForm}
use Rattle.mls_lines.specs.declared.line.TheConstants.{MAX_LINE}
use Rattle.mls_lines.specs.Fault.{fault_text}
use Rattle.mls_lines.specs.LineView.{LineView, Blank, Asks}
use Rattle.mls_lines.specs.Names.{Names}
use Rattle.mls_lines.specs.ScriptLine.{line_of}
use Rattle.mls_scripts.specs.declared.answer.Answer.{Answer}
use Rattle.mls_scripts.specs.declared.answer.Answer.TheVariants as answer
use Rattle.mls_scripts.specs.Script.{Standing, entry_for, held_text, said_to, left_by}
use Rattle.mls_durable.specs.declared.address.TheConstants.{MAX_SESSION}
use Rattle.mls_durable.specs.declared.address.Who.{Who}
use Rattle.mls_durable.specs.declared.address.Who.TheVariants.{Script, Nobody, Session, Trial}
use Rattle.mls_durable.specs.declared.options.Asker.{Asker}
use Rattle.mls_durable.specs.declared.options.Asker.TheVariants as asker
use Rattle.mls_durable.specs.declared.options.Protocol.{Protocol}

-- A byte stands before the first of two parts. (own)
abbrev pub before_space : ℕ → Option (List ℕ × List ℕ) → Option (List ℕ × List ℕ)
before_space b None = None
before_space b (Some p) = Some (b ∷ p.0, p.1)

-- What stands before the first space of a line, and what stands behind it, where the line has a space. (own)
abbrev pub at_space : List ℕ → Option (List ℕ × List ℕ)
at_space [] = None
at_space (b ∷ line) = if b == 32 then Some ([], line) else before_space b (at_space line)

-- What stands behind `? `, where a line begins with that. (own)
abbrev pub behind_mark : List ℕ → Option (List ℕ)
behind_mark [] = None
behind_mark (a ∷ []) = None
behind_mark (a ∷ b ∷ line) = if (a == 63) && (b == 32) then Some line else None

-- A session's line, by what stands behind its `? `, where it has one. (own)
abbrev pub marked : ℕ → List ℕ → Option (List ℕ) → Who × List ℕ
marked k line None = (Session k, line)
marked k line (Some behind) = (Trial k, behind)

-- A line that begins with this number of a session, or with none. (own)
abbrev pub numbered : Option ℕ → List ℕ → Who × List ℕ
numbered None line = (Nobody, [])
numbered (Some k) line = marked k line (behind_mark line)

-- A line that has a space, or none. (own)
abbrev pub spaced : Option (List ℕ × List ℕ) → Who × List ℕ
spaced None = (Nobody, [])
spaced (Some p) = numbered (decimal_within MAX_SESSION p.0) p.1

-- Whom a line asks for, and what of it is the line of a script: `LINE`, or `K LINE` or `K ? LINE`, K the number of a
-- session, which is at most 4,294,967,294. (own)
abbrev pub addressed : Asker → List ℕ → Who × List ℕ
addressed (asker.Session k) line = (Script k, line)
addressed asker.EachLine line = spaced (at_space line)

-- Whether a `$` begins a line, if its front is here, or stands behind a space of it: so begin variables. (own)
abbrev pub has_variable : Bool → List ℕ → Bool
has_variable here [] = false
has_variable here (b ∷ line) = (here && (b == 36)) || has_variable (b == 32) line

-- What a line says in which no variable may stand, by what it would say and whether one stands in it. (own)
abbrev pub without_variable : Bool → Result LineView LineFault → Result LineView LineFault
without_variable has (Ok Blank) = Ok Blank
without_variable has (Ok (Asks bind a)) = if has then Err BadForm else Ok (Asks bind a)
without_variable has (Err fault) = if has then Err BadForm else Err fault

-- What the line of a script says, by whom it asks for: in a session's line no variable may stand, but in a note. (own)
abbrev pub said_for : Names → List (List ℕ × ℕ) → Who → List ℕ → Result LineView LineFault
said_for names vars (Script k) line = line_of names vars line
said_for names vars Nobody line = Err BadForm
said_for names vars (Session k) line = without_variable (has_variable true line) (line_of names vars line)
said_for names vars (Trial k) line = without_variable (has_variable true line) (line_of names vars line)

-- What a line says to a service, and whom it asks for. (own)
pub record Heard : Type 0 where
  pub who : Who
  pub said : Result LineView LineFault

-- What a line with this address says to a service. (own)
abbrev pub heard_at : Names → List (List ℕ × ℕ) → Who × List ℕ → Heard
heard_at names vars p = record { who = p.0; said = said_for names vars p.0 p.1 }

-- What a line says to a service. (own)
abbrev pub heard : Names → Asker → List (List ℕ × ℕ) → List ℕ → Heard
heard names asker vars line = heard_at names vars (addressed asker line)

-- The entry that a line adds, where it adds one. (own)
abbrev pub added_in : ℕ → Standing → Result LineView LineFault → Option Entry
added_in session s (Err fault) = None
added_in session s (Ok Blank) = None
added_in session s (Ok (Asks bind (Check t o x))) = None
added_in session s (Ok (Asks bind (Submit r))) = Some (entry_for session s r)

-- The same by whom the line asks for: a line of nobody and a trial add none. (own)
abbrev pub added_for : Standing → Who → Result LineView LineFault → Option Entry
added_for s (Script k) said = added_in k s said
added_for s Nobody said = None
added_for s (Session k) said = added_in k s said
added_for s (Trial k) said = None

-- What a line leaves, by whom it asks for: a line of nobody and a trial leave all as it is. (own)
abbrev pub left_for : Standing → Who → Result LineView LineFault → Standing
left_for s (Script k) said = left_by k s said
left_for s Nobody said = s
left_for s (Session k) said = left_by k s said
left_for s (Trial k) said = s

-- What the answer to a line begins with, by whom the line asks for. (own)
abbrev pub head_for : Who → List ℕ
head_for (Script k) = []
head_for Nobody = codes "- "
head_for (Session k) = decimal k ++ codes " "
head_for (Trial k) = decimal k ++ codes " ? "

-- What stands behind an answer with this number. (own)
abbrev pub number_text : Option ℕ → List ℕ
number_text None = []
number_text (Some n) = 32 ∷ decimal n

-- What stands behind an answer that came with this entry: its number, where numbers are wanted. (own)
abbrev pub number_of : Bool → Option Entry → List ℕ
number_of numbers None = []
number_of numbers (Some e) = if numbers then number_text (Some e.number) else []

-- An answer as a line with this in front and that behind; where there is no answer, nothing. (own)
abbrev pub answer_line : List ℕ → List ℕ → Answer → List ℕ
answer_line head tail answer.Nothing = []
answer_line head tail (answer.Fault fault) = head ++ fault_text fault ++ tail ++ 10 ∷ []
answer_line head tail (answer.Held held) = head ++ held_text held ++ tail ++ 10 ∷ []
answer_line head tail (answer.Replied r) = head ++ reply_text r ++ tail ++ 10 ∷ []

-- There is no answer. (own)
abbrev pub is_silent : Answer → Bool
is_silent answer.Nothing = true
is_silent (answer.Fault fault) = false
is_silent (answer.Held held) = false
is_silent (answer.Replied r) = false

-- The bytes of the answer to what was heard. (own)
abbrev pub answer_heard : Bool → Standing → Heard → List ℕ
answer_heard numbers s h =
    answer_line (head_for h.who) (number_of numbers (added_for s h.who h.said)) (said_to s h.said)

-- The line of an entry, where there is one. (own)
abbrev pub line_of_added : Option Entry → List ℕ
line_of_added None = []
line_of_added (Some e) = entry_line e

-- The bytes of the answer to a line. (own)
unfoldable pub answer_to : Names → Protocol → Standing → List ℕ → List ℕ
answer_to names protocol s line = answer_heard protocol.numbers s (heard names protocol.asker s.vars line)

-- What a service stands at after what was heard. (own)
abbrev pub left_heard : Standing → Heard → Standing
left_heard s h = left_for s h.who h.said

-- Where a service stands after a line. (own)
unfoldable pub after_line : Names → Protocol → Standing → List ℕ → Standing
after_line names protocol s line = left_heard s (heard names protocol.asker s.vars line)

-- The text that what was heard adds to the journal. (own)
abbrev pub logged_heard : Standing → Heard → List ℕ
logged_heard s h = line_of_added (added_for s h.who h.said)

-- The text that a line adds to the journal. (own)
unfoldable pub logged_by : Names → Protocol → Standing → List ℕ → List ℕ
logged_by names protocol s line = logged_heard s (heard names protocol.asker s.vars line)

-- Where a service stands after lines. (own)
unfoldable pub after_lines : Names → Protocol → Standing → List (List ℕ) → Standing
after_lines names protocol s [] = s
after_lines names protocol s (line ∷ lines) = after_lines names protocol (after_line names protocol s line) lines

-- The answers to lines, in their order. (own)
unfoldable pub answers : Names → Protocol → Standing → List (List ℕ) → List ℕ
answers names protocol s [] = []
answers names protocol s (line ∷ lines) = answer_to names protocol s line
    ++ answers names protocol (after_line names protocol s line) lines

-- The protocol of a service whose lines are all of one session, and that tells no numbers, with files of one journal or
-- of this many bytes. (own)
abbrev pub one_session : ℕ → Option ℕ → Protocol
one_session k segment = record { asker = asker.Session k; numbers = false; segment = segment }

-- The entry that a line adds, where it adds one. (own)
abbrev pub added_by : Names → Protocol → Standing → List ℕ → Option Entry
added_by names protocol s line =
    added_for s (heard names protocol.asker s.vars line).who (heard names protocol.asker s.vars line).said

-- Two lines say the same, whatever variables are bound. (own)
abbrev pub SaysSame : Names → Asker → List ℕ → List ℕ → Type 0
SaysSame names asker a b = (vars : List (List ℕ × ℕ)) → heard names asker vars a ≡ heard names asker vars b

-- What is kept of a line: as many bytes as tell what it says, since the line of a script with more than 20,000 is a bad
-- form whatever follows. (own)
abbrev pub kept_of : List ℕ → List ℕ
kept_of line = take (MAX_LINE + 14) line
