-- What a question is asked over, and what is seen of it.
use Rattle.std.specs.Prelude.{◌≡◌, ℕ, List, [], ◌∷◌, ◌++◌, length, Option, Some, None, refl}
use Rattle.std.specs.Coded.{Coded, code_by, coded×, coded_ℕ, coded_list, coded_option}
use Rattle.mls_lines.specs.Names.{Names, names_code}
use Rattle.mls_requests.specs.declared.entry.Entry.{Entry}
use Rattle.mls_requests.specs.contracts.entry.Entry as entry
use Rattle.mls_state.specs.State.{State, state_code}
use Rattle.mls_state.specs.Properties.{IsSecure}
use Rattle.mls_journal.specs.EntryText.{journal_text, AllHaveRanges}
use Rattle.mls_monitor.specs.Journal.{fold, IsLegal}
use Rattle.mls_start_file.specs.Says.{SaysStart}
use Rattle.mls_replay.specs.Replays.{SeesOver, entry_at}
use Rattle.mls_snapshots.specs.Reading.{IsOver}
use Rattle.mls_snapshots.specs.States.{state_text}

-- Where a journal is cut: how many entries come before, and the text of the state that was kept there, where one was;
-- else it is cut before entry 0, in the state of the start. (own)
pub record Cut : Type 0 where
  pub number : ℕ
  pub kept : Option (List ℕ)

-- The bytes of files: those of a start file, and those of a journal, whole or from a cut on. (own)
pub record Files : Type 0 where
  pub start : List ℕ
  pub cut : Option Cut
  pub journal : List ℕ

-- What is seen of files: the names and the start that the start file says, the state that a question is about, which
-- is the one before the entry of a number where that is asked for, the number of the next entry, and that entry, where
-- it is known. (own)
pub record Seen : Type 0 where
  pub files : Files
  pub at : Option ℕ
  pub names : Names
  pub start : State
  pub state : State
  pub number : ℕ
  pub next : Option Entry

-- A cut as the pair of its parts. (own)
abbrev pub cut_code : Coded Cut
cut_code =
    code_by (ℕ × Option (List ℕ)) (coded× coded_ℕ (coded_option (coded_list coded_ℕ))) (λ c. (c.number, c.kept))
    (λ p. record { number = p.0; kept = p.1 }) (λ _. refl)

-- Files as the tuple of their parts. (own)
abbrev pub files_code : Coded Files
files_code =
    code_by (List ℕ × (Option Cut × List ℕ))
    (coded× (coded_list coded_ℕ) (coded× (coded_option cut_code) (coded_list coded_ℕ)))
    (λ f. (f.start, (f.cut, f.journal))) (λ p. record { start = p.0; cut = p.1.0; journal = p.1.1 }) (λ _. refl)

-- What is seen as the tuple of its parts. (own)
abbrev pub seen_code : Coded Seen
seen_code =
    code_by (Files × (Option ℕ × (Names × (State × (State × (ℕ × Option Entry))))))
    (coded× files_code (coded× (coded_option coded_ℕ) (coded× names_code (coded× state_code (coded× state_code
    (coded× coded_ℕ (coded_option entry.the_row.coded)))))))
    (λ s. (s.files, (s.at, (s.names, (s.start, (s.state, (s.number, s.next)))))))
    (λ p. record {
      files = p.0;
      at = p.1.0;
      names = p.1.1.0;
      start = p.1.1.1.0;
      state = p.1.1.1.1.0;
      number = p.1.1.1.1.1.0;
      next = p.1.1.1.1.1.1;
    }) (λ _. refl)

-- A state is the one that was kept: no other secure state over the start has the text. Where none was kept it is that
-- of the start. (own)
abbrev pub IsKept : Names → State → Option (List ℕ) → State → Type 0
IsKept names start None v = v ≡ start
IsKept names start (Some text) v = (w : State) → IsSecure w → IsOver start w → state_text names w ≡ text → v ≡ w

-- Entries stand before a cut: they are as many as it says, legal from the start, and lead to the state that was kept.
-- (own)
pub record StandsBefore (names : Names) (start : State) (cut : Cut) (earlier : List Entry) : Type 0 where
  pub many : length earlier ≡ cut.number
  pub legal : IsLegal start earlier
  pub kept : IsKept names start cut.kept (fold start earlier)

-- The entries that one is, where there is one. (own)
abbrev pub list_of : Option Entry → List Entry
list_of None = []
list_of (Some e) = e ∷ []

-- A number is the one that is asked for, where one is. (own)
abbrev pub IsAt : Option ℕ → ℕ → Type 0
IsAt None number = Unit {0}
IsAt (Some at) number = number ≡ at

-- Behind earlier entries a journal's text is that of entries up to a state, and of the next one where that is known:
-- their numbers and labels have their ranges, all are legal behind the earlier ones, and the state is the one that they
-- lead to. (own)
pub record SeesBehind (start : State) (earlier : List Entry) (r : Seen) : Type 0 where
  pub entries : List Entry
  pub text : r.files.journal ≡ journal_text (entries ++ list_of r.next)
  pub ranges : AllHaveRanges (entries ++ list_of r.next)
  pub legal : IsLegal start (earlier ++ (entries ++ list_of r.next))
  pub state : r.state ≡ fold start (earlier ++ entries)
  pub number : r.number ≡ length (earlier ++ entries)
  pub place : IsAt r.at r.number

-- The number of the entry behind the state that is looked at: the one that is told, or else the one behind all. (own)
abbrev pub place_of : Option ℕ → List Entry → ℕ
place_of None entries = length entries
place_of (Some at) entries = at

-- A whole journal is seen as by a replay of it, which has the next entry, too. (own)
pub record SeesWhole (r : Seen) : Type 0 where
  pub entries : List Entry
  pub sees : SeesOver r.start r.files.journal r.at entries r.state
  pub number : r.number ≡ place_of r.at entries
  pub next : r.next ≡ entry_at r.at entries

-- What is seen is of the journal: of a whole one as by a replay; of one from a cut on, behind whatever entries stand
-- before the cut. (own)
abbrev pub SeesJournal : Option Cut → Seen → Type 0
SeesJournal None r = SeesWhole r
SeesJournal (Some cut) r =
    (earlier : List Entry) → StandsBefore r.names r.start cut earlier → SeesBehind r.start earlier r

-- What is seen is of its files: the start file says the names and the start, and the rest is of the journal. (own)
pub record SeesFiles (r : Seen) : Type 0 where
  pub says : SaysStart r.files.start (record { names = r.names; start = r.start })
  pub sees : SeesJournal r.files.cut r

-- Files, looked at before an entry or behind all, are seen as something of which this is so. (own)
pub record SeesThat (files : Files) (at : Option ℕ) (P : Seen → Type 0) : Type 0 where
  pub seen : Seen
  pub of_files : seen.files ≡ files
  pub before : seen.at ≡ at
  pub sees : SeesFiles seen
  pub so : P seen
