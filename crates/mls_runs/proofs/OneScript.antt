-- One script in threads prints what it prints in a serial run.
use Rattle.std.proofs.Common.{◌≡◌, ℕ, Bool, List, [], ◌∷◌, ◌++◌, length, Option, Some, None, refl, sym, ap, ◌∙◌, arith, eq-eqb, append-nil}
use Rattle.std.specs.Prelude.{if◌then◌else◌}
use Rattle.mls_state.specs.State.{State}
use Rattle.mls_requests.specs.declared.entry.Entry.{Entry}
use Rattle.mls_journal.specs.EntryText.{journal_text}
use Rattle.mls_lines.specs.Names.{Names}
use Rattle.mls_monitor.specs.Entries.{AllBelow, of_session}
use Rattle.mls_scripts.specs.Lines.{lines_of}
use Rattle.mls_scripts.specs.Script.{answers, after_lines}
use Rattle.mls_scripts.proofs.Laws.{alone}
use Rattle.mls_replay.specs.RunTexts.{heading}
use Rattle.mls_runs.specs.Run.{begins, scripts_left, scripts_text, run_entries, run_text}
use Rattle.mls_runs.specs.Threads.{LeavesInThreads}
use Rattle.mls_replay.specs.RunTexts.{ending}

-- where there is one session, all entries are its own
all_own : (entries : List Entry) → AllBelow 1 entries → of_session 0 entries ≡ entries
all_own [] below = refl
all_own (e ∷ entries) below =
    let first : e.session ≡ 0 = omega (arith, below.0) in
    ap (λ (b : Bool). if b then e ∷ of_session 0 entries else of_session 0 entries) (eq-eqb e.session 0 first) ∙ ap (λ es. e ∷ es) (all_own entries below.1)

text_of_one : (names : Names) (start : State) (script : List ℕ) → scripts_text names start 0 [] (script ∷ []) ≡ heading 0 ++ answers names 0 (begins start []) (lines_of script)
unfolding scripts_text
text_of_one names start script = append-nil (heading 0 ++ answers names 0 (begins start []) (lines_of script))

left_by_one : (names : Names) (start : State) (script : List ℕ) → run_entries names start (script ∷ []) ≡ (after_lines names 0 (begins start []) (lines_of script)).entries
unfolding scripts_left
left_by_one names start script = refl

pub one_script : (names : Names) (start : State) (script : List ℕ) (asked : Bool) (output : List ℕ) (journal : Option (List ℕ)) → LeavesInThreads names start (script ∷ []) asked output journal
    → (output ≡ run_text names start (script ∷ [])) × (journal ≡ (if asked then Some (journal_text (run_entries names start (script ∷ []))) else None))
one_script names start script asked output journal so =
    let entries : List Entry = so.0 in
    let printed = so.4 in
    let served = alone names 0 printed.0 (begins start []) entries (lines_of script) printed.1 so.2 (all_own entries so.3) printed.3 printed.4 in
    let left : run_entries names start (script ∷ []) ≡ entries = left_by_one names start script ∙ served.1 in
    let text : so.1 ≡ scripts_text names start 0 [] (script ∷ []) =
    printed.5 ∙ ap (λ later. (heading 0 ++ printed.1) ++ later) printed.6 ∙ append-nil (heading 0 ++ printed.1) ∙ ap (λ said. heading 0 ++ said) served.0 ∙ sym (text_of_one names start script) in (
      so.5 ∙ ap (λ t. t ++ ending (length entries)) text ∙ ap (λ es. scripts_text names start 0 [] (script ∷ []) ++ ending (length es)) (sym left),
      so.6 ∙ ap (λ es. if asked then Some (journal_text es) else None) (sym left),
    )
