use Rattle.mls_monitor.specs.declared.feed.Stage.TheVariants.{Ready}
use Rattle.mls_monitor.specs.Feeds.{AllAt}
use Rattle.mls_tests.proofs.sessions.runs.make_feeds.Given as goal

abbrev pub invariant-loop-k : goal.invariant-loop-k
invariant-loop-k l = AllAt (λ f. f.stage) Ready l.all.items
