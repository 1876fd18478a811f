use Rattle.std.proofs.Common.{◌≡◌}
use Rattle.mls_runs.proofs.Runs.{Ran}
use Rattle.mls_runs.proofs.running.run_scripts.Given as goal

-- the scripts before this one were run, each over what those before it left
abbrev pub invariant-loop-script : goal.invariant-loop-script
invariant-loop-script l =
    (l.monitor.forgotten ≡ l.initial.monitor.forgotten)
    × Ran (λ s. s.now) l.names l.initial.monitor.start l.initial.monitor.entries l.initial.output.items l.scripts l.script-index l.session l.monitor.start
    l.monitor.entries l.output.items
