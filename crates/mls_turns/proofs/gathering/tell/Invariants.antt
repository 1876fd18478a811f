use Rattle.std.proofs.Common.{◌≡◌, ◌+◌, ◌<◌, ◌≤◌, take}
use Rattle.mls_monitor.specs.declared.feed.Stage.TheVariants.{Ready, Waiting}
use Rattle.mls_monitor.specs.Feeds.{Heard}
use Rattle.mls_turns.proofs.gathering.tell.Given as goal

abbrev pub invariant-loop-answer : goal.invariant-loop-answer
invariant-loop-answer g l = record {
  left : g.F.Feed.asks_left l.feed ≤ g.F.Feed.asks_left l.initial.feed;
  waiting : l.answer-index < g.F.Feed.waits_for l.initial.feed → g.F.Feed.stands_at l.feed ≡ Waiting;
  waits : l.answer-index < g.F.Feed.waits_for l.initial.feed → g.F.Feed.waits_for l.feed + l.answer-index ≡ g.F.Feed.waits_for l.initial.feed;
  ready : l.answer-index ≡ g.F.Feed.waits_for l.initial.feed → g.F.Feed.stands_at l.feed ≡ Ready;
  heard : Heard g.F.Feed.hears l.initial.feed (take l.answer-index l.answers) l.feed;
}
