-- What a comparison of start files tells, and why there is none.
use Rattle.std.specs.Prelude.{◌≡◌, ℕ, List, Option, Some, None}
use Rattle.mls_journal.specs.EntryText.{journal_text}
use Rattle.mls_monitor.specs.Journal.{IsLegal}
use Rattle.mls_requests.specs.declared.entry.Entry.{Entry}
use Rattle.mls_lines.specs.Names.{Names}
use Rattle.mls_state.specs.State.{State}
use Rattle.mls_start_file.specs.Says.{SaysStart}
use Rattle.mls_start_file.specs.Ties.{Loaded}
use Rattle.mls_replay.specs.Loads.{RefusesLoad}
use Rattle.mls_replay.specs.declared.command.CommandFault.TheVariants as refused
use Rattle.mls_replay.specs.Replayed.{RefusesJournal}
use Rattle.mls_rows.specs.declared.form.Form.{Form}
use Rattle.mls_rows.specs.declared.listing.Listing.{Listing}
use Rattle.mls_differences.specs.Coulds.{TellsCoulds}
use Rattle.mls_differences.specs.Scoped.{TellsStarts}
use Rattle.mls_compare.specs.Asked.{TellsEntries}
use Rattle.mls_compare.specs.Following.{followed_rows}
use Rattle.mls_compare.specs.declared.asked.Asked.{Asked}
use Rattle.mls_compare.specs.declared.compare_fault.CompareFault.{CompareFault}
use Rattle.mls_compare.specs.declared.compare_fault.CompareFault.TheVariants.{First, Second, Journal, Unset}

-- The bytes of a journal are those of entries that are legal from a start with these names, and the answer has, in a
-- form, just those that another start answers otherwise, of what is asked for. (own)
pub record FollowsJournal (asked : Asked) (form : Form) (names : Names) (start : State) (b : Loaded) (journal : List ℕ)
    (listing : Listing) : Type 0 where
  pub entries : List Entry
  pub text : journal ≡ journal_text entries
  pub legal : IsLegal start entries
  pub answered : TellsEntries asked form names (followed_rows names b entries) listing

-- An answer tells, in a form, how a start differs from another, which files of these words say, of what is asked for:
-- without a journal by their names and openings, with one by the replies to its requests. (own)
abbrev pub Tells : Asked → Form → List ℕ → List ℕ → Loaded → Loaded → Option (List ℕ) → Listing → Type 0
Tells asked form file other a b None listing = TellsStarts asked.scope form file other a b listing
Tells asked form file other a b (Some journal) listing = FollowsJournal asked form a.names a.start b journal listing

-- A second file says a start, and the answer tells how that differs from a first start. (own)
abbrev pub ComparesWith : Asked → Form → List ℕ → List ℕ → Loaded → List ℕ → Option (List ℕ) → Listing → Type 0
ComparesWith asked form file other a second journal listing =
    (b : Loaded) × SaysStart second b × Tells asked form file other a b journal listing

-- Two start files say starts, and the answer tells how the second differs from the first. (own)
abbrev pub Compares :
    Asked → Form → List ℕ → List ℕ → List ℕ → List ℕ → Option (List ℕ) → Listing → Type 0
Compares asked form file other first second journal listing =
    (a : Loaded) × SaysStart first a × ComparesWith asked form file other a second journal listing

-- A second file says a start, and the answer tells what untrusted subjects could get by that or by a first start alone.
-- (own)
abbrev pub TellsCouldsWith : Form → List ℕ → List ℕ → Loaded → List ℕ → Listing → Type 0
TellsCouldsWith form file other a second listing =
    (b : Loaded) × SaysStart second b × TellsCoulds form file other a.names b.names a.start b.start listing

-- Two start files say starts, and the answer tells what untrusted subjects could get by one of them alone. (own)
abbrev pub ComparesCoulds : Form → List ℕ → List ℕ → List ℕ → List ℕ → Listing → Type 0
ComparesCoulds form file other first second listing =
    (a : Loaded) × SaysStart first a × TellsCouldsWith form file other a second listing

-- Why the replies to a journal's requests aren't compared: the journal is refused as one of the start; or memory ran
-- out. (own)
abbrev pub RefusesReplies : State → List ℕ → CompareFault → Type 0
RefusesReplies start journal (First cause) = cause ≡ refused.Memory
RefusesReplies start journal (Second cause) = ⊥
RefusesReplies start journal (Journal cause) = RefusesJournal start journal cause
RefusesReplies start journal (Unset cause) = ⊥

-- Why two starts aren't compared: the journal, where there is one, is refused as one of the first; or memory ran out.
-- (own)
abbrev pub RefusesLoaded : State → Option (List ℕ) → CompareFault → Type 0
RefusesLoaded start None fault = fault ≡ First refused.Memory
RefusesLoaded start (Some journal) fault = RefusesReplies start journal fault

-- Why a second file isn't loaded: it is refused, or memory ran out. (own)
abbrev pub RefusesOther : List ℕ → CompareFault → Type 0
RefusesOther second (First cause) = ⊥
RefusesOther second (Second cause) = RefusesLoad second cause
RefusesOther second (Journal cause) = ⊥
RefusesOther second (Unset cause) = ⊥

-- Why a start isn't compared with the one of a second file: that is refused; else the journal is; or memory ran out.
-- (own)
abbrev pub RefusesSecond : State → List ℕ → Option (List ℕ) → CompareFault → Type 0
RefusesSecond start second journal (First cause) = cause ≡ refused.Memory
RefusesSecond start second journal (Second cause) = RefusesLoad second cause
RefusesSecond start second None (Journal cause) = ⊥
RefusesSecond start second (Some journal) (Journal cause) =
    (b : Loaded) × SaysStart second b × RefusesJournal start journal cause
RefusesSecond start second journal (Unset cause) = ⊥

-- Why start files aren't compared: the first is refused; else the second; else the journal, as one of the first start.
-- That memory ran out says nothing of the files. (own)
abbrev pub RefusesComparison : List ℕ → List ℕ → Option (List ℕ) → CompareFault → Type 0
RefusesComparison first second journal (First cause) = RefusesLoad first cause
RefusesComparison first second journal (Second cause) =
    (a : Loaded) × SaysStart first a × RefusesSecond a.start second journal (Second cause)
RefusesComparison first second journal (Journal cause) =
    (a : Loaded) × SaysStart first a × RefusesSecond a.start second journal (Journal cause)
RefusesComparison first second journal (Unset cause) = ⊥
