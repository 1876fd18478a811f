-- What a command makes of a start file, and why a command over one is refused.
use Rattle.std.specs.Prelude.{◌≡◌, ℕ, List}
use Rattle.mls_state.specs.State.{State}
use Rattle.mls_start_file.specs.Says.{SaysStart, RefusesStart}
use Rattle.mls_start_file.specs.Ties.{Loaded}
use Rattle.mls_replay.specs.declared.command.CommandFault.{CommandFault}
use Rattle.mls_replay.specs.declared.command.CommandFault.TheVariants.{Load, Entry, Replay, Thread, Memory}

-- The bytes of a start file say this start, whatever its names are. (own)
abbrev pub SaysState : List ℕ → State → Type 0
SaysState bytes start = (loaded : Loaded) × SaysStart bytes loaded × (start ≡ loaded.start)

-- Why a start file isn't loaded: it is refused, or memory ran out. (own)
abbrev pub RefusesLoad : List ℕ → CommandFault → Type 0
RefusesLoad bytes (Load cause) = RefusesStart bytes cause
RefusesLoad bytes (Entry line cause) = ⊥
RefusesLoad bytes (Replay fault) = ⊥
RefusesLoad bytes Thread = ⊥
RefusesLoad bytes Memory = Unit {0}

-- Why a run in threads over a start isn't done: a thread couldn't be started, or memory ran out. (own)
abbrev pub IsRunFault : CommandFault → Type 0
IsRunFault (Load cause) = ⊥
IsRunFault (Entry line cause) = ⊥
IsRunFault (Replay fault) = ⊥
IsRunFault Thread = Unit {0}
IsRunFault Memory = Unit {0}

-- Why a run in threads over a start file isn't done: the file is refused, a thread couldn't be started, or memory ran
-- out. (own)
abbrev pub RefusesRun : List ℕ → CommandFault → Type 0
RefusesRun bytes (Load cause) = RefusesStart bytes cause
RefusesRun bytes (Entry line cause) = ⊥
RefusesRun bytes (Replay fault) = ⊥
RefusesRun bytes Thread = Unit {0}
RefusesRun bytes Memory = Unit {0}
