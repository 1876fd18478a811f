use Rattle.std.proofs.Common.{◌≡◌, ◌≤◌, vec_capacity}
use Rattle.mls_sessions.specs.Sessions.{IsOf, number_of}
use Rattle.mls_monitor.specs.declared.feed.Stage.TheVariants.{Ready}
use Rattle.mls_turns.specs.declared.limits.TheConstants.{AHEAD}
use Rattle.mls_sessions.proofs.Feeds.{Asking}
use Rattle.mls_sessions.proofs.attend.attend.Given as goal

abbrev pub invariant-loop-session : goal.invariant-loop-session
invariant-loop-session g l = record {
  office : IsOf l.office l.session;
  number : number_of l.session.view ≡ number_of l.initial.session.view;
  ready : g.F.Feed.stands_at l.feed ≡ Ready;
  room : (AHEAD ≤ vec_capacity l.asks) × (AHEAD ≤ vec_capacity l.answers);
  asking : Asking g.F.Feed.gives g.F.Feed.gives_ahead g.F.Feed.hears l.office l.initial.session l.initial.feed l.session l.feed;
}

abbrev pub decreases-loop-session : goal.decreases-loop-session
decreases-loop-session g l = g.F.Feed.asks_left l.feed
