use Rattle.std.proofs.Common.{refl}
use Rattle.mls_page.proofs.Granted.{state_next, trusting_next, trusting_none}
use Rattle.mls_page.proofs.walked.Walked.look_at_all.Goals as goal

pub loop-place-init : goal.loop-place-init
loop-place-init c = record { folded = refl; trusting = trusting_none c.args.state.now c.args.self.now.trusting.items }

pub loop-place-preserved : goal.loop-place-preserved
loop-place-preserved c = record {
  folded =
      state_next c.args.state.now c.loop-place.state c.apply.new.state c.args.entries.now c.loop-place.place c.index-entries-place.result
      c.loop-place-test.true c.index-entries-place.is c.loop-place.invariant.folded c.in_ok-apply.ensures.ok;
  trusting =
      trusting_next c.args.state.now c.loop-place.state c.args.entries.now c.loop-place.place c.index-entries-place.result _ _ _
      c.loop-place-test.true c.index-entries-place.is c.loop-place.invariant.folded c.loop-place.invariant.trusting c.in_ok-look.ensures;
}
