-- What the refusal of a run in threads is as the refusal of a command.
use Rattle.mls_sessions.specs.declared.run_fault.RunFaultKind.{RunFaultKind}
use Rattle.mls_sessions.specs.declared.run_fault.RunFaultKind.TheVariants as run
use Rattle.mls_replay.specs.declared.command.CommandFault.{CommandFault}
use Rattle.mls_replay.specs.declared.command.CommandFault.TheVariants.{Thread, Memory}

-- The refusal of a command whose run in threads is refused; it never has a number of scripts that can't be run. (own)
abbrev pub run_fault : RunFaultKind → CommandFault
run_fault run.BadCount = Memory
run_fault run.Memory = Memory
run_fault run.Thread = Thread
