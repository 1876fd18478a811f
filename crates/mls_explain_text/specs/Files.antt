-- What the entries of a start file and a journal are explained by, and what files are replayed as.
use Rattle.std.specs.Prelude.{◌≡◌, ◌⊎◌, ℕ, Bool, List, [], slice_get, Option, Some, None}
use Rattle.std.specs.FinSet as set
use Rattle.mls_tables.specs.Mode.{ModeSet}
use Rattle.mls_tables.specs.declared.mode.Mode.{Mode}
use Rattle.mls_tables.specs.declared.mode.Mode.TheVariants.{Execute, Read, Append, Write}
use Rattle.mls_requests.specs.declared.ask.Ask.{Ask}
use Rattle.mls_requests.specs.declared.ask.Ask.TheVariants.{Submit}
use Rattle.mls_requests.specs.declared.entry.Entry.{Entry}
use Rattle.mls_replay.specs.Replays.{Replayed, ReplaysAt, RefusesAt}
use Rattle.mls_replay.specs.declared.question_fault.QuestionFault.{QuestionFault}
use Rattle.mls_explain_text.specs.Explained.{Explains}
use Rattle.mls_explain_text.specs.Responses.{response_to, is_positive}

-- A text and whether it is positive explain what is asked, in the state that is seen. (own)
pub record ExplainsAsk (r : Replayed) (asked : Ask) (told : List ℕ) (positive : Bool) : Type 0 where
  pub text : Explains r.names r.state asked told
  pub granted : positive ≡ is_positive (response_to r.state asked)

-- A text and whether it is positive explain the request of the entry of a number. (own)
pub record ExplainsEntry (r : Replayed) (number : ℕ) (told : List ℕ) (positive : Bool) : Type 0 where
  pub entry : Entry
  pub there : slice_get r.entries number ≡ Some entry
  pub explains : ExplainsAsk r (Submit entry.request) told positive

-- The modes that are asked for: one, or all. (own)
abbrev pub modes_asked : Option Mode → ModeSet
modes_asked (Some x) = set.insert set.empty x
modes_asked None = set.insert (set.insert (set.insert (set.insert set.empty Execute) Read) Append) Write

-- The bytes of a journal, none where there is no journal. (own)
abbrev pub journal_bytes : Option (List ℕ) → List ℕ
journal_bytes (Some bytes) = bytes
journal_bytes None = []

-- A start file and a journal, which may be left out, are replayed as something of which this is so. (own)
abbrev pub SeesThat : List ℕ → Option (List ℕ) → Option ℕ → (Replayed → Type 0) → Type 0
SeesThat bytes journal at P = (r : Replayed) × ReplaysAt bytes (journal_bytes journal) at r × P r

-- Why a question about a start file and a journal has no answer: they aren't replayed, or they are, and this is why.
-- (own)
abbrev pub RefusesThat : List ℕ → Option (List ℕ) → Option ℕ → (Replayed → QuestionFault → Type 0) → QuestionFault
    → Type 0
RefusesThat bytes journal at P fault =
    RefusesAt bytes (journal_bytes journal) at fault ⊎ SeesThat bytes journal at (λ r. P r fault)
