use Rattle.std.proofs.Common.{◌≡◌, ◌<◌, ◌≤◌, vec_len, vec_capacity}
use Rattle.mls_monitor.specs.declared.feed.Stage.TheVariants.{Waiting}
use Rattle.mls_turns.specs.declared.limits.TheConstants.{AHEAD}
use Rattle.mls_monitor.specs.Feeds.{Gave}
use Rattle.mls_turns.proofs.gathering.take_asks.Given as goal

abbrev pub invariant-loop-feed : goal.invariant-loop-feed
invariant-loop-feed g l = record {
  room : AHEAD ≤ vec_capacity l.asks;
  some : 0 < vec_len l.asks;
  many : vec_len l.asks ≤ AHEAD;
  waiting : g.F.Feed.stands_at l.feed ≡ Waiting;
  waits : g.F.Feed.waits_for l.feed ≡ vec_len l.asks;
  less : g.F.Feed.asks_left l.feed < g.F.Feed.asks_left l.fn.feed;
  gave : Gave g.F.Feed.gives g.F.Feed.gives_ahead l.fn.feed l.asks.items l.feed;
}

abbrev pub decreases-loop-feed : goal.decreases-loop-feed
decreases-loop-feed g l = g.F.Feed.asks_left l.feed
