use Rattle.mls_monitor.specs.declared.feed.Stage.TheVariants.{Ready}
use Rattle.mls_monitor.specs.Feeds.{AllAt}
use Rattle.mls_probes.proofs.turns.make_feeds.Given as goal

abbrev pub invariant-loop : goal.invariant-loop
invariant-loop l = AllAt (λ f. f.stage) Ready l.all.items

abbrev pub invariant-loop-2 : goal.invariant-loop-2
invariant-loop-2 l = AllAt (λ f. f.stage) Ready l.all.items
