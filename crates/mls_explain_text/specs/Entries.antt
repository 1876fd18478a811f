-- What is listed of the entries of a journal, each with why it has its reply.
use Rattle.std.specs.Prelude.{◌≡◌, ℕ, Bool, true, false, List, [], ◌∷◌, ◌++◌, filter, take}
use Rattle.std.specs.Prelude.{Option}
use Rattle.std.specs.Io.KnownBytes.{Appends}
use Rattle.std.specs.List.{list_any}
use Rattle.mls_requests.specs.declared.ask.Ask.TheVariants.{Submit}
use Rattle.mls_requests.specs.declared.request.Request.{Request}
use Rattle.mls_requests.specs.declared.entry.Entry.{Entry}
use Rattle.mls_lines.specs.Names.{Names}
use Rattle.mls_marks.specs.declared.row.Row.{Row}
use Rattle.mls_monitor.specs.Journal.{fold}
use Rattle.mls_replay.specs.Replays.{Replayed}
use Rattle.mls_listings.specs.Choosing.{IsChosen, Words}
use Rattle.mls_listings.specs.Listings.{stamped_line}
use Rattle.mls_listings.specs.Matching.{Choice, matches}
use Rattle.mls_listings.specs.declared.list_fault.ListFault.{ListFault}
use Rattle.mls_state.specs.State.{State}
use Rattle.mls_explain_text.specs.Explained.{Explains, ExplainsRequest}
use Rattle.mls_explain_text.specs.Files.{ExplainsEntry}
use Rattle.mls_explain_text.specs.Under.{behind_first, told_lines, under_text}
use Rattle.mls_explain_text.specs.declared.write_fault.WriteFault.{WriteFault}
use Rattle.mls_explain_text.specs.declared.write_fault.WriteFault.TheVariants as faults

-- A start and its entries, as they are seen before the entry of a number: in the state that those before it lead to.
-- (own)
abbrev pub seen_before : Names → State → List Entry → ℕ → Replayed
seen_before names start entries n =
    record { names = names; start = start; entries = entries; state = fold start (take n entries) }

-- What stands under the line of an entry: what explains the entry of its number, as `mls explain --at` prints it, but
-- for the first line, each line behind two spaces. (own)
pub record IsUnder (names : Names) (start : State) (entries : List Entry) (e : Entry) (under : List ℕ) : Type 0 where
  pub told : List ℕ
  pub positive : Bool
  pub explains : ExplainsEntry (seen_before names start entries e.number) e.number told positive
  pub text : under ≡ under_text told

-- A text is that of some of the entries: of each its line, and what stands under it. (own)
abbrev pub TellsEach : Names → State → List Entry → Option (List Row) → List Entry → List ℕ → Type 0
TellsEach names start entries marks [] text = text ≡ []
TellsEach names start entries marks (e ∷ chosen) text =
    (under : List ℕ) × (rest : List ℕ) × IsUnder names start entries e under
    × TellsEach names start entries marks chosen rest × (text ≡ stamped_line names marks e ++ (under ++ rest))

-- To a text the line of an entry is added, and what explains its request in a state, but for the first line. (own)
pub record AddsEntry (names : Names) (marks : Option (List Row)) (v : State) (e : Entry) (old new : List ℕ)
    : Type 0 where
  pub told : List ℕ
  pub explains : Explains names v (Submit e.request) told
  pub text : new ≡ old ++ (stamped_line names marks e ++ under_text told)

-- The lines of a text are those of a request's explanation behind its reply. (own)
pub record TellsWhy (names : Names) (v : State) (r : Request) (text : List ℕ) : Type 0 where
  pub told : List ℕ
  pub explains : ExplainsRequest names v r told
  pub lines : told_lines text ≡ behind_first (told_lines told)

-- To a text this is added where an entry is asked for, and nothing where it isn't. (own)
abbrev pub AddsWhere : Bool → Names → Option (List Row) → State → Entry → List ℕ → List ℕ → Type 0
AddsWhere true names marks v e old new = AddsEntry names marks v e old new
AddsWhere false names marks v e old new = new ≡ old

-- What is listed of the entries that are asked for, each explained, and of no others; it is positive where there is
-- one. (own)
pub record IsExplained (names : Names) (start : State) (entries : List Entry) (marks : Option (List Row)) (c : Choice)
    (told : List ℕ) (positive : Bool) : Type 0 where
  pub text : TellsEach names start entries marks (filter (matches c) entries) told
  pub any : positive ≡ list_any (matches c) entries

-- There is a listing of the entries of a replay that a filter asks for, each explained. (own)
abbrev pub ExplainsOver : Replayed → Option (List Row) → Words → List ℕ → Bool → Type 0
ExplainsOver r marks asked told positive =
    (c : Choice) × IsChosen r.names asked c × IsExplained r.names r.start r.entries marks c told positive

-- A writer was handed a text of which this is so, and nothing else. (own)
abbrev pub Writes : (List ℕ → Type 0) → Option (List ℕ) → Option (List ℕ) → Type 0
Writes P held holds = (told : List ℕ) × P told × Appends held holds told

-- A writer was handed a front of a text, of which the rest is left. (own)
abbrev pub Pours : Option (List ℕ) → Option (List ℕ) → List ℕ → List ℕ → Type 0
Pours held holds before after = (told : List ℕ) × Appends held holds told × (before ≡ told ++ after)

-- Why entries aren't written: the writer failed, or for such a fault of their listing. (own)
abbrev pub RefusesWriting : (ListFault → Type 0) → WriteFault → Type 0
RefusesWriting P (faults.List fault) = P fault
RefusesWriting P faults.Write = Unit {0}
