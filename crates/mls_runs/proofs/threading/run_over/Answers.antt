use Rattle.std.proofs.Common.{string_bytes, map}
use Rattle.std.specs.Prelude.{option_map}
use Rattle.std.proofs.lemmas.Result.{IfOk-weaker}
use Rattle.mls_runs.proofs.Laws.{leaves_in_threads}
use Rattle.mls_runs.proofs.threading.run_over.Goals as goal

pub returns-clause-ok : goal.returns-clause-ok
returns-clause-ok g c =
    IfOk-weaker c.run_feeds.result _ _ (λ run left. leaves_in_threads c.args.names.now c.args.monitor.start (map (λ script. script.now) c.args.scripts.now) c.in-Ok.feeds.items c.args.journal
    run.output.items (option_map (λ text. string_bytes text) run.journal) c.in-Ok.ensures.feeds left) c.run_feeds.ensures.ok
