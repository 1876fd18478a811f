-- What scripts print that are run one after the other, and the journal that they leave.
use Rattle.std.specs.Prelude.{◌≡◌, ℕ, ◌+◌, ◌-◌, ◌^◌, min, Bool, List, [], ◌∷◌, ◌++◌, length, Option, Some, None}
use Rattle.std.specs.Prelude.{if◌then◌else◌}
use Rattle.mls_state.specs.State.{State}
use Rattle.mls_requests.specs.declared.entry.Entry.{Entry}
use Rattle.mls_journal.specs.EntryText.{journal_text}
use Rattle.mls_lines.specs.Names.{Names}
use Rattle.mls_start_file.specs.Says.{SaysStart}
use Rattle.mls_start_file.specs.Ties.{Loaded}
use Rattle.mls_scripts.specs.Lines.{lines_of}
use Rattle.mls_scripts.specs.Script.{Standing, answers, after_lines}
use Rattle.mls_replay.specs.RunTexts.{heading, ending}

-- Where a script begins: it has bound no variable, and the journal is what the scripts before it left. (own)
abbrev pub begins : State → List Entry → Standing
begins start entries = record { vars = []; start = start; entries = entries }

-- The journal that a script leaves. (own)
abbrev pub left_entries : Names → ℕ → State → List Entry → List ℕ → List Entry
left_entries names session start entries script =
    (after_lines names session (begins start entries) (lines_of script)).entries

-- What a script prints: its heading, and the answers to its lines. (own)
abbrev pub script_text : Names → ℕ → State → List Entry → List ℕ → List ℕ
script_text names session start entries script = heading session
    ++ answers names session (begins start entries) (lines_of script)

-- The session of the script before which so many others are run: their number, as far as sessions have numbers. (own)
abbrev pub session_after : ℕ → ℕ
session_after k = min k (2 ^ 32 - 1)

-- The journal that scripts leave which are run one after the other, the first of these as the session after k others.
-- (own)
unfoldable pub scripts_left : Names → State → ℕ → List Entry → List (List ℕ) → List Entry
scripts_left names start k entries [] = entries
scripts_left names start k entries (script ∷ scripts) =
    scripts_left names start (k + 1) (left_entries names (session_after k) start entries script) scripts

-- What scripts print which are run one after the other: each its heading and its answers, over the journal that those
-- before it left. (own)
unfoldable pub scripts_text : Names → State → ℕ → List Entry → List (List ℕ) → List ℕ
scripts_text names start k entries [] = []
scripts_text names start k entries (script ∷ scripts) =
    script_text names (session_after k) start entries script
    ++ scripts_text names start (k + 1) (left_entries names (session_after k) start entries script) scripts

-- The journal of a run of scripts, one after the other, over a start. (own)
abbrev pub run_entries : Names → State → List (List ℕ) → List Entry
run_entries names start scripts = scripts_left names start 0 [] scripts

-- What a run of scripts prints, one after the other, over a start: what each prints, and how the monitor stands at the
-- end. (own)
abbrev pub run_text : Names → State → List (List ℕ) → List ℕ
run_text names start scripts = scripts_text names start 0 [] scripts
    ++ ending (length (run_entries names start scripts))

-- A start file says a start and its names, and a run of scripts over it, one after the other, prints this and leaves a
-- journal of this text, where that was asked for. (own)
abbrev pub RunsOver : List ℕ → List (List ℕ) → Bool → List ℕ → Option (List ℕ) → Type 0
RunsOver bytes scripts asked output journal =
    (loaded : Loaded) × SaysStart bytes loaded × (output ≡ run_text loaded.names loaded.start scripts)
    × (journal ≡ (if asked then Some (journal_text (run_entries loaded.names loaded.start scripts)) else None))
