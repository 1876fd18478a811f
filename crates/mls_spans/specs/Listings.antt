-- What is listed of the spans in which accesses are held.
use Rattle.std.specs.Prelude.{◌≡◌, ◌⊎◌, ◌≤◌, List, length, Option, Some}
use Rattle.std.specs.List.{list_any}
use Rattle.mls_lines.specs.Names.{Names}
use Rattle.mls_marks.specs.declared.row.Row.{Row}
use Rattle.mls_requests.specs.declared.entry.Entry.{Entry}
use Rattle.mls_rows.specs.declared.form.Form.{Form}
use Rattle.mls_rows.specs.declared.listing.Listing.{Listing}
use Rattle.mls_replay.specs.Replays.{Replayed}
use Rattle.mls_replay.specs.declared.command.CommandFault.TheVariants.{Memory}
use Rattle.mls_replay.specs.declared.question_fault.QuestionFault.{QuestionFault}
use Rattle.mls_replay.specs.declared.question_fault.QuestionFault.TheVariants.{Files}
use Rattle.mls_state.specs.State.{State}
use Rattle.mls_spans.specs.Asked.{Choice, Words, IsBehind, IsChosen, choice_fault, is_asked}
use Rattle.mls_spans.specs.Lines.{spans_bytes}
use Rattle.mls_spans.specs.Spans.{spans_over}

-- The spans over a start and entries that are asked for, and no others, in a form, with times by the rows of marks,
-- where there are some; it is positive where there is one. (own)
pub record IsListing (form : Form) (names : Names) (rows : Option (List Row)) (start : State) (entries : List Entry)
    (c : Choice) (listing : Listing) : Type 0 where
  pub bytes : listing.bytes.items ≡ spans_bytes form names rows c (spans_over start entries)
  pub positive : listing.is_positive ≡ list_any (is_asked c) (spans_over start entries)

-- There is a listing of the spans of a replay that a filter asks for. (own)
abbrev pub ListsOver : Form → Replayed → Option (List Row) → Words → Listing → Type 0
ListsOver form r rows words listing =
    (c : Choice) × IsChosen r.names words c × IsListing form r.names rows r.start r.entries c listing

-- The same of a replay that has the first of the states that are asked about. (own)
abbrev pub ListsFrom : Form → Replayed → Option (List Row) → Words → Listing → Type 0
ListsFrom form r rows words listing =
    (words.states.first ≤ length r.entries) × ListsOver form r rows words listing

-- Why the spans of a replay aren't listed: memory ran out, or a filter's words have this fault. (own)
abbrev pub RefusesNames : Names → Words → QuestionFault → Type 0
RefusesNames names words fault = (fault ≡ Files Memory) ⊎ (choice_fault names words ≡ Some fault)

-- Why the spans of a replay aren't listed: it hasn't the first of the states that are asked about, or else for the
-- filter's words. (own)
abbrev pub RefusesFrom : Replayed → Words → QuestionFault → Type 0
RefusesFrom r words fault =
    IsBehind words.states.first r.entries fault
    ⊎ ((words.states.first ≤ length r.entries) × RefusesNames r.names words fault)
