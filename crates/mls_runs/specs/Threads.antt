-- What scripts print that are run in threads, and the journal that they leave.
use Rattle.std.specs.Prelude.{◌≡◌, ℕ, ◌+◌, Bool, List, [], ◌∷◌, ◌++◌, length, Option, Some, None, if◌then◌else◌}
use Rattle.mls_state.specs.State.{State}
use Rattle.mls_requests.specs.declared.entry.Entry.{Entry}
use Rattle.mls_journal.specs.EntryText.{journal_text}
use Rattle.mls_lines.specs.Names.{Names}
use Rattle.mls_monitor.specs.Journal.{IsLegal}
use Rattle.mls_monitor.specs.Feeds.{Exchange, AreTold}
use Rattle.mls_monitor.specs.Entries.{AllBelow}
use Rattle.mls_start_file.specs.Says.{SaysStart}
use Rattle.mls_start_file.specs.Ties.{Loaded}
use Rattle.mls_scripts.specs.Fed.{Prints}
use Rattle.mls_scripts.specs.Lines.{lines_of}
use Rattle.mls_replay.specs.RunTexts.{heading, ending}

-- What scripts print that are run in threads, the first of these as session k, over this journal: each its heading, and
-- the answers to its lines, where what they ask is told as the journal has it, which has no other entry of the session.
-- (own)
abbrev pub ThreadsPrint : Names → State → List Entry → ℕ → List (List ℕ) → List ℕ → Type 0
ThreadsPrint names start entries k [] text = text ≡ []
ThreadsPrint names start entries k (script ∷ scripts) text =
    (xs : List Exchange) × (said : List ℕ) × (later : List ℕ) × AreTold start k [] entries xs
    × Prints names [] (lines_of script) xs said
    × (text ≡ heading k ++ said ++ later) × ThreadsPrint names start entries (k + 1) scripts later

-- What a run of scripts in threads leaves over a start: a journal which is legal from it, with entries of the scripts'
-- sessions alone; it prints what the scripts print over that journal, in their order, and how many entries it has; and
-- the journal's text is there just where it was asked for. (own)
abbrev pub LeavesInThreads : Names → State → List (List ℕ) → Bool → List ℕ → Option (List ℕ) → Type 0
LeavesInThreads names start scripts asked output journal =
    (entries : List Entry) × (text : List ℕ) × IsLegal start entries × AllBelow (length scripts) entries
    × ThreadsPrint names start entries 0 scripts text
    × (output ≡ text ++ ending (length entries)) × (journal ≡ (if asked then Some (journal_text entries) else None))

-- A start file says a start and its names, and a run of scripts in threads over it prints this and leaves a journal of
-- this text, where that was asked for. (own)
abbrev pub RunsInThreads : List ℕ → List (List ℕ) → Bool → List ℕ → Option (List ℕ) → Type 0
RunsInThreads bytes scripts asked output journal =
    (loaded : Loaded) × SaysStart bytes loaded × LeavesInThreads loaded.names loaded.start scripts asked output journal
