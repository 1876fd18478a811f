use Rattle.std.proofs.Common.{string_bytes}
use Rattle.mls_runs.proofs.Threads.{run_left}
use Rattle.mls_runs.proofs.threading.run_feeds.Goals as goal

pub returns-in-Ok-clause-ok : goal.returns-in-Ok-clause-ok
returns-in-Ok-clause-ok g c =
    run_left c.finish.result (λ run. run.output.items) (λ run. run.journal) (λ text. string_bytes text) c.args.monitor _ c.args.journal c.args.feeds c.in-Ok.run'.feeds c.requires.fresh
    c.in-Ok.ensures.ok c.finish.ensures.legal c.in-Ok.ensures.fed c.finish.ensures.whole c.finish.ensures.output c.finish.ensures.journal c.finish.ensures.asked
