-- What a run in threads leaves, and why it isn't done.
use Rattle.std.proofs.Common.{◌≡◌, ℕ, length, List, [], ◌++◌, subst, Option, IfSome, IfOk, IfErr, Result, Ok, Err, drop}
use Rattle.std.specs.Prelude.{Bool, OnOk, option_map, is_some, vec_len}
use Rattle.std.specs.declared.vec.Vec.{Vec}
use Rattle.mls_scripts.specs.Feed.{ScriptFeed}
use Rattle.mls_scripts.specs.Fed.{Gives, GivesAhead, Takes}
use Rattle.mls_lines.specs.Names.{Names}
use Rattle.mls_state.specs.State.{State}
use Rattle.mls_monitor.specs.Journal.{Monitor, IsLegal}
use Rattle.mls_monitor.specs.Feeds.{AllFed}
use Rattle.mls_monitor.specs.Entries.{AllBelow}
use Rattle.mls_sessions.specs.Runs.{Grew}
use Rattle.mls_start_file.specs.Says.{SaysStart}
use Rattle.mls_start_file.specs.Ties.{Loaded}
use Rattle.mls_journal.specs.EntryText.{journal_text}
use Rattle.mls_sessions.specs.declared.run_fault.RunFaultKind.{RunFaultKind}
use Rattle.mls_sessions.specs.declared.run_fault.RunFaultKind.TheVariants as kinds
use Rattle.mls_replay.specs.declared.command.CommandFault.{CommandFault}
use Rattle.mls_replay.specs.declared.command.CommandFault.TheVariants as faults
use Rattle.mls_replay.specs.Loads.{RefusesLoad, IsRunFault, RefusesRun}
use Rattle.mls_runs.specs.RunFaults.{run_fault}
use Rattle.mls_runs.specs.Threads.{LeavesInThreads, RunsInThreads}
use Rattle.mls_replay.specs.RunTexts.{ending}
use Rattle.mls_runs.specs.RunFeeds.{NoneFailed, LeavesFeeds, fed_texts}
use Rattle.mls_replay.proofs.AskedJournals.{journal_asked}

-- what a run of feeds left, of a monitor that grew from an empty journal
left_feeds : {X : Type 0} (bytes : X → List ℕ) (old new : Monitor) (asked : Bool) (feeds left : List ScriptFeed) (output : List ℕ) (journal : Option X)
    → old.entries ≡ [] → Grew old.start old.entries old.forgotten (length feeds) new → IsLegal new.start new.entries
    → AllFed Gives GivesAhead Takes old.start old.entries (drop (length old.entries) new.entries) 0 feeds left → NoneFailed left
    → output ≡ fed_texts 0 left ++ ending (length new.entries) → IfSome journal (λ text. bytes text ≡ journal_text new.entries) → is_some journal ≡ asked
    → LeavesFeeds old.start feeds asked output (option_map bytes journal)
left_feeds bytes old new asked feeds left output journal fresh grew legal fed none printed told there = (
  new.entries,
  left,
  subst (λ s. IsLegal s new.entries) grew.start legal,
  subst (λ js. AllBelow (length feeds) (drop (length js) new.entries)) fresh grew.below,
  subst (λ js. AllFed Gives GivesAhead Takes old.start js (drop (length js) new.entries) 0 feeds left) fresh fed,
  none,
  printed,
  journal_asked bytes journal asked _ there told,
)

-- the same of what a run returns
pub run_left : {T E X Z : Type 0} (result : Result T E) (output_of : T → List ℕ) (journal_of : T → Option X) (bytes : X → List ℕ) (old new : Monitor) (asked : Bool)
    (feeds left : Vec ScriptFeed Z) → old.entries ≡ [] → Grew old.start old.entries old.forgotten (vec_len feeds) new → IsLegal new.start new.entries
    → AllFed Gives GivesAhead Takes old.start old.entries (drop (length old.entries) new.entries) 0 feeds.items left.items → OnOk result (NoneFailed left.items)
    → IfOk result (λ run. output_of run ≡ fed_texts 0 left.items ++ ending (length new.entries))
    → IfOk result (λ run. IfSome (journal_of run) (λ text. bytes text ≡ journal_text new.entries)) → IfOk result (λ run. is_some (journal_of run) ≡ asked)
    → IfOk result (λ run. LeavesFeeds old.start feeds.items asked (output_of run) (option_map bytes (journal_of run)))
run_left (Ok run) output_of journal_of bytes old new asked feeds left fresh grew legal fed none printed told there =
    left_feeds bytes old new asked feeds.items left.items (output_of run) (journal_of run) fresh (subst (λ n. Grew old.start old.entries old.forgotten n new) feeds.ok.0 grew) legal fed none printed told there
run_left (Err e) output_of journal_of bytes old new asked feeds left fresh grew legal fed none printed told there = printed

-- what a run left over the start that a file says
pub run_says : {T E : Type 0} (result : Result T E) (output_of : T → List ℕ) (journal_of : T → Option (List ℕ)) (file : List ℕ) (names : Names) (scripts : List (List ℕ)) (asked : Bool) (begun : State)
    (loaded : Loaded) → SaysStart file loaded → names ≡ loaded.names → begun ≡ loaded.start
    → IfOk result (λ run. LeavesInThreads names begun scripts asked (output_of run) (journal_of run)) → IfOk result (λ run. RunsInThreads file scripts asked (output_of run) (journal_of run))
run_says (Ok run) output_of journal_of file names scripts asked begun loaded says called same is =
    (loaded, says, subst (λ n. LeavesInThreads n loaded.start scripts asked (output_of run) (journal_of run)) called (subst (λ s. LeavesInThreads names s scripts asked (output_of run) (journal_of run)) same is))
run_says (Err e) output_of journal_of file names scripts asked begun loaded says called same is = is

-- why a run in threads isn't done
pub run_stops : (kind : RunFaultKind) → IsRunFault (run_fault kind)
run_stops kinds.BadCount = tt
run_stops kinds.Memory = tt
run_stops kinds.Thread = tt

-- what stops a run over a start stops one over a start file
stops : (bytes : List ℕ) (fault : CommandFault) → IsRunFault fault → RefusesRun bytes fault
stops bytes (faults.Load cause) is = absurd is
stops bytes (faults.Entry line cause) is = absurd is
stops bytes (faults.Replay fault) is = absurd is
stops bytes faults.Thread is = tt
stops bytes faults.Memory is = tt

pub run_refuses : {T : Type 0} (result : Result T CommandFault) (bytes : List ℕ) → IfErr result IsRunFault → IfErr result (λ fault. RefusesRun bytes fault)
run_refuses (Ok run) bytes is = tt
run_refuses (Err fault) bytes is = stops bytes fault is

-- a start file that isn't loaded is run in no threads
pub load_stops_run : (bytes : List ℕ) (fault : CommandFault) → RefusesLoad bytes fault → RefusesRun bytes fault
load_stops_run bytes (faults.Load cause) is = is
load_stops_run bytes (faults.Entry line cause) is = is
load_stops_run bytes (faults.Replay fault) is = is
load_stops_run bytes faults.Thread is = absurd is
load_stops_run bytes faults.Memory is = tt
