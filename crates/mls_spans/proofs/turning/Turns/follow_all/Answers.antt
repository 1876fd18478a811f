use Rattle.std.proofs.Common.{◌∙◌}
use Rattle.mls_spans.proofs.Followed.{state_next}
use Rattle.mls_spans.proofs.Turned.{turns_next}
use Rattle.mls_spans.proofs.turning.Turns.follow_all.Goals as goal

pub loop-entry-preserved : goal.loop-entry-preserved
loop-entry-preserved c = record {
  object = c.in_ok-follow.ensures.object ∙ c.loop-entry.invariant.object;
  state =
      state_next c.args.state.now c.loop-entry.state c.follow.new.state c.args.entries.now c.loop-entry.entry-index c.entry-item.result
      c.loop-entry-test.true c.entry-item.is c.loop-entry.invariant.state c.in_ok-follow.ensures.state;
  turns =
      turns_next c.args.state.now c.loop-entry.state c.follow.new.state c.args.entries.now c.loop-entry.entry-index c.entry-item.result
      c.loop-entry.self c.follow.new.self c.loop-entry-test.true c.entry-item.is c.loop-entry.invariant.state c.in_ok-follow.ensures.state
      c.loop-entry.invariant.turns c.in_ok-follow.ensures.object c.in_ok-follow.ensures.subjects c.in_ok-follow.ensures.each;
}
