-- What comparisons tell, and why they are refused, from their parts.
use Rattle.std.proofs.Common.{◌≡◌, ℕ, List, Option, Some, None, Result, Ok, Err, refl, sym, subst}
use Rattle.std.specs.Prelude.{IfOk, IfErr}
use Rattle.mls_journal.specs.EntryText.{journal_text}
use Rattle.mls_lines.specs.Names.{Names}
use Rattle.mls_monitor.specs.Journal.{IsLegal}
use Rattle.mls_requests.specs.declared.entry.Entry.{Entry}
use Rattle.mls_state.specs.State.{State}
use Rattle.mls_start_file.specs.Says.{SaysStart}
use Rattle.mls_start_file.specs.Ties.{Loaded}
use Rattle.mls_replay.specs.Loads.{RefusesLoad}
use Rattle.mls_rows.specs.declared.form.Form.{Form}
use Rattle.mls_rows.specs.declared.listing.Listing.{Listing}
use Rattle.mls_compare.specs.Asked.{TellsEntries}
use Rattle.mls_compare.specs.Comparing.{FollowsJournal, ComparesWith, Compares, ComparesCoulds, Tells, TellsCouldsWith}
use Rattle.mls_compare.specs.Comparing.{RefusesReplies, RefusesLoaded, RefusesSecond, RefusesComparison}
use Rattle.mls_compare.specs.Following.{followed_rows}
use Rattle.mls_compare.specs.declared.asked.Asked.{Asked}
use Rattle.mls_compare.specs.declared.compare_fault.CompareFault.{CompareFault}
use Rattle.mls_compare.specs.declared.compare_fault.CompareFault.TheVariants.{First, Second, Journal, Unset}

-- a journal that a start keeps
pub follows : (asked : Asked) (form : Form) (names : Names) (start kept : State) (b : Loaded) (journal : List ℕ) (entries seen : List Entry) (answer : Listing)
    → kept ≡ start → journal ≡ journal_text entries → IsLegal kept entries → seen ≡ entries
    → TellsEntries asked form names (followed_rows names b seen) answer → FollowsJournal asked form names start b journal answer
follows asked form names start kept b journal entries seen answer same text legal is answered = record {
  entries = entries;
  text = text;
  legal = subst (λ s. IsLegal s entries) same legal;
  answered = subst (λ es. TellsEntries asked form names (followed_rows names b es) answer) is answered;
}

-- two starts that aren't compared, the second of a file
second_is : (start : State) (second : List ℕ) (journal : Option (List ℕ)) (b : Loaded) (fault : CompareFault) → SaysStart second b
    → RefusesLoaded start journal fault → RefusesSecond start second journal fault
second_is start second None b fault says why = subst (RefusesSecond start second None) (sym why) refl
second_is start second (Some journal) b (First cause) says why = why
second_is start second (Some journal) b (Second cause) says why = absurd why
second_is start second (Some journal) b (Journal cause) says why = (b, says, why)
second_is start second (Some journal) b (Unset cause) says why = absurd why

module _ (asked : Asked) (form : Form) (file other : List ℕ) (journal : Option (List ℕ)) where
  -- a start and that of a second file
  pub second_tells : (a b : Loaded) (second : List ℕ) (result : Result Listing CompareFault) → SaysStart second b
      → IfOk result (λ answer. Tells asked form file other a b journal answer)
      → IfOk result (λ answer. ComparesWith asked form file other a second journal answer)
  second_tells a b second (Ok answer) says tells = (b, says, tells)
  second_tells a b second (Err fault) says tells = tt

  -- a first file that is loaded
  pub comparison_tells : (first second : List ℕ) (a : Loaded) (result : Result Listing CompareFault) → SaysStart first a
      → IfOk result (λ answer. ComparesWith asked form file other a second journal answer)
      → IfOk result (λ answer. Compares asked form file other first second journal answer)
  comparison_tells first second a (Ok answer) says tells = (a, says, tells)
  comparison_tells first second a (Err fault) says tells = tt

pub second_refused : (start : State) (second : List ℕ) (journal : Option (List ℕ)) (b : Loaded) (result : Result Listing CompareFault) → SaysStart second b
    → IfErr result (λ fault. RefusesLoaded start journal fault) → IfErr result (λ fault. RefusesSecond start second journal fault)
second_refused start second journal b (Ok answer) says why = tt
second_refused start second journal b (Err fault) says why = second_is start second journal b fault says why

-- a first file that is loaded, and isn't compared
second_refuses : (first second : List ℕ) (journal : Option (List ℕ)) (a : Loaded) (fault : CompareFault) → SaysStart first a
    → RefusesSecond a.start second journal fault → RefusesComparison first second journal fault
second_refuses first second journal a (First cause) says why = subst (RefusesLoad first) (sym why) tt
second_refuses first second journal a (Second cause) says why = (a, says, why)
second_refuses first second journal a (Journal cause) says why = (a, says, why)
second_refuses first second journal a (Unset cause) says why = absurd why

pub comparison_refuses : (first second : List ℕ) (journal : Option (List ℕ)) (a : Loaded) (result : Result Listing CompareFault) → SaysStart first a
    → IfErr result (λ fault. RefusesSecond a.start second journal fault) → IfErr result (λ fault. RefusesComparison first second journal fault)
comparison_refuses first second journal a (Ok answer) says why = tt
comparison_refuses first second journal a (Err fault) says why = second_refuses first second journal a fault says why

-- what could come about by one of two starts alone, of a first file that is loaded
pub coulds_told : (form : Form) (file other first second : List ℕ) (a : Loaded) (result : Result Listing CompareFault) → SaysStart first a
    → IfOk result (λ answer. TellsCouldsWith form file other a second answer)
    → IfOk result (λ answer. ComparesCoulds form file other first second answer)
coulds_told form file other first second a (Ok answer) says tells = (a, says, tells)
coulds_told form file other first second a (Err fault) says tells = tt
