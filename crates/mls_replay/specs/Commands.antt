-- What the refusal of a start and that of a replay are as the refusal of a command, and the status that the program
-- then ends with.
use Rattle.std.specs.Prelude.{ℕ}
use Rattle.mls_monitor.specs.declared.replay_fault.ReplayFault.{ReplayFault}
use Rattle.mls_monitor.specs.declared.replay_fault.ReplayFault.TheVariants as replayed
use Rattle.mls_start_text.specs.declared.load_fault.LoadFault.{LoadFault}
use Rattle.mls_start_text.specs.declared.load_fault.LoadFault.TheVariants as refused
use Rattle.mls_replay.specs.declared.command.CommandFault.{CommandFault}
use Rattle.mls_replay.specs.declared.command.CommandFault.TheVariants.{Load, Entry, Replay, Thread, Memory}

-- The refusal of a command whose start is refused: out of memory is that, whatever met it. (own)
abbrev pub command_fault : LoadFault → CommandFault
command_fault refused.Json = Load refused.Json
command_fault refused.Members = Load refused.Members
command_fault (refused.Scheme cause) = Load (refused.Scheme cause)
command_fault refused.Name = Load refused.Name
command_fault refused.Label = Load refused.Label
command_fault refused.Unknown = Load refused.Unknown
command_fault (refused.Start cause) = Load (refused.Start cause)
command_fault refused.Memory = Memory

-- The refusal of a command whose journal is refused by its replay. (own)
abbrev pub replay_fault : ReplayFault → CommandFault
replay_fault (replayed.Number at) = Replay (replayed.Number at)
replay_fault (replayed.Differs at expected) = Replay (replayed.Differs at expected)
replay_fault replayed.Memory = Memory

-- The status that the program ends with: 3 where a journal isn't one of its start, 1 for all else. (own)
abbrev pub status_of : CommandFault → ℕ
status_of (Load cause) = 1
status_of (Entry line cause) = 1
status_of (Replay cause) = 3
status_of Thread = 1
status_of Memory = 1
