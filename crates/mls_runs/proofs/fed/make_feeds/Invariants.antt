use Rattle.std.proofs.Common.{◌≡◌, vec_len, take, map}
use Rattle.mls_monitor.specs.declared.feed.Stage.TheVariants.{Ready}
use Rattle.mls_monitor.specs.Feeds.{AllAt}
use Rattle.mls_runs.specs.RunFeeds.{AreFeedsOf}
use Rattle.mls_runs.proofs.fed.make_feeds.Given as goal

abbrev pub invariant-loop-script : goal.invariant-loop-script
invariant-loop-script l = record {
  ready : AllAt (λ f. f.stage) Ready l.feeds.items;
  count : vec_len l.feeds ≡ l.script-index;
  feeds : AreFeedsOf l.names (map (λ script. script.now) (take l.script-index l.scripts)) l.feeds.items;
}
