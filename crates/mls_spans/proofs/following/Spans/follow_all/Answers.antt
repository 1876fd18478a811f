use Rattle.mls_spans.proofs.Followed.{state_next, spans_next}
use Rattle.mls_spans.proofs.following.Spans.follow_all.Goals as goal

pub loop-entry-preserved : goal.loop-entry-preserved
loop-entry-preserved c = record {
  state =
      state_next c.args.state.now c.loop-entry.state c.follow.new.state c.args.entries.now c.loop-entry.entry-index c.entry-item.result
      c.loop-entry-test.true c.entry-item.is c.loop-entry.invariant.state c.in_ok-follow.ensures.state;
  spans =
      spans_next c.args.state.now c.loop-entry.state c.follow.new.state c.args.entries.now c.loop-entry.entry-index c.entry-item.result
      c.loop-entry.self.spans.items c.follow.new.self.spans.items c.loop-entry-test.true c.entry-item.is c.loop-entry.invariant.state
      c.in_ok-follow.ensures.state c.loop-entry.invariant.spans c.in_ok-follow.ensures.spans;
  places = c.in_ok-follow.ensures.places;
  stand = c.in_ok-follow.ensures.stand;
}
