use Rattle.mls_monitor.specs.declared.feed.Stage.TheVariants.{Ready}
use Rattle.mls_monitor.specs.Feeds.{AllAt}
use Rattle.mls_probes.proofs.sessions.make_feeds.Given as goal

abbrev pub invariant-loop-number : goal.invariant-loop-number
invariant-loop-number l = AllAt (λ f. f.stage) Ready l.feeds.items
