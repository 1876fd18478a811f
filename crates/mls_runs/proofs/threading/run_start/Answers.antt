use Rattle.std.proofs.Common.{string_bytes, subst, map, IfOk}
use Rattle.std.specs.Prelude.{option_map}
use Rattle.mls_runs.specs.Threads.{LeavesInThreads}
use Rattle.mls_runs.proofs.threading.run_start.Goals as goal

pub returns-clause-ok : goal.returns-clause-ok
returns-clause-ok g c =
    subst (λ s. IfOk c.run_over.result (λ run. LeavesInThreads c.args.names.now s (map (λ script. script.now) c.args.scripts.now) c.args.journal run.output.items (option_map (λ text. string_bytes text) run.journal)))
    c.in-Ok.ensures.ok.start c.run_over.ensures.ok
