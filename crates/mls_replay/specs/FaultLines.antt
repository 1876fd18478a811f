-- The lines that tell why a command was refused.
use Rattle.std.specs.Prelude.{ℕ, List, ◌++◌, codes}
use Rattle.std.specs.Fmt.{decimal}
use Rattle.mls_labels.specs.declared.scheme_fault.SchemeFault.{SchemeFault}
use Rattle.mls_labels.specs.declared.scheme_fault.SchemeFault.TheVariants as scheme
use Rattle.mls_state.specs.declared.start_fault.StartFault.{StartFault}
use Rattle.mls_state.specs.declared.start_fault.StartFault.TheVariants as start
use Rattle.mls_journal.specs.declared.entry_fault.EntryFault.{EntryFault}
use Rattle.mls_journal.specs.declared.entry_fault.EntryFault.TheVariants as entry
use Rattle.mls_monitor.specs.declared.replay_fault.ReplayFault.{ReplayFault}
use Rattle.mls_monitor.specs.declared.replay_fault.ReplayFault.TheVariants as replayed
use Rattle.mls_requests.specs.ReplyWords.{reply_text}
use Rattle.mls_start_text.specs.declared.load_fault.LoadFault.{LoadFault}
use Rattle.mls_start_text.specs.declared.load_fault.LoadFault.TheVariants as load
use Rattle.mls_replay.specs.declared.command.CommandFault.{CommandFault}
use Rattle.mls_replay.specs.declared.command.CommandFault.TheVariants.{Load, Entry, Replay, Thread, Memory}

-- The number and the name of a scheme's fault. (own)
abbrev pub scheme_words : SchemeFault → List ℕ
scheme_words scheme.NoLevels = codes "1 NoLevels"
scheme_words scheme.TooManyLevels = codes "2 TooManyLevels"
scheme_words scheme.TooManyCategories = codes "3 TooManyCategories"
scheme_words scheme.BadName = codes "4 BadName"
scheme_words scheme.RepeatedName = codes "5 RepeatedName"
scheme_words scheme.Memory = codes "6 Memory"

-- The number and the name of a start's fault. (own)
abbrev pub start_words : StartFault → List ℕ
start_words start.NoSubjects = codes "1 NoSubjects"
start_words start.TooManySubjects = codes "2 TooManySubjects"
start_words start.TooManyObjects = codes "3 TooManyObjects"
start_words start.BadLabel = codes "4 BadLabel"
start_words start.BadParent = codes "5 BadParent"
start_words start.CurrentAboveMaximum = codes "6 CurrentAboveMaximum"
start_words start.NotCompatible = codes "7 NotCompatible"
start_words start.IntegrityAboveParent = codes "8 IntegrityAboveParent"
start_words start.NoSuchCell = codes "9 NoSuchCell"
start_words start.NotSecure = codes "10 NotSecure"

-- The number and the name of a start file's fault, and those of its cause where it has one. (own)
abbrev pub load_words : LoadFault → List ℕ
load_words load.Json = codes "1 Json"
load_words load.Members = codes "2 Members"
load_words (load.Scheme cause) = codes "3 Scheme " ++ scheme_words cause
load_words load.Name = codes "4 Name"
load_words load.Label = codes "5 Label"
load_words load.Unknown = codes "6 Unknown"
load_words (load.Start cause) = codes "7 Start " ++ start_words cause
load_words load.Memory = codes "8 Memory"

-- The number and the name of a fault of a journal's line. (own)
abbrev pub entry_words : EntryFault → List ℕ
entry_words entry.BadForm = codes "1 BadForm"
entry_words entry.BadNumber = codes "2 BadNumber"
entry_words entry.BadLabel = codes "3 BadLabel"
entry_words entry.BadReply = codes "4 BadReply"

-- The line that tells of a journal's first entry that isn't as the start and the rules have it. (own)
abbrev pub replay_line : List ℕ → ReplayFault → List ℕ
replay_line file (replayed.Number at) = codes "mls: " ++ file ++ codes ": replay 1 Number at " ++ decimal at
    ++ codes "\n"
replay_line file (replayed.Differs at expected) =
    codes "mls: " ++ file ++ codes ": replay 2 Differs at " ++ decimal at ++ codes " expected " ++ reply_text expected
    ++ codes "\n"
replay_line file replayed.Memory = codes "mls: memory\n"

-- The line that tells why a command over a file was refused. (own)
abbrev pub fault_line : List ℕ → CommandFault → List ℕ
fault_line file (Load cause) = codes "mls: " ++ file ++ codes ": start " ++ load_words cause ++ codes "\n"
fault_line file (Entry line cause) = codes "mls: " ++ file ++ codes ": line " ++ decimal line ++ codes ": entry "
    ++ entry_words cause ++ codes "\n"
fault_line file (Replay fault) = replay_line file fault
fault_line file Thread = codes "mls: thread\n"
fault_line file Memory = codes "mls: memory\n"
