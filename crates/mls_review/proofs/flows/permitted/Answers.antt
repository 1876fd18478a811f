use Rattle.std.proofs.Common.{◌≡◌, true}
use Rattle.mls_state.specs.State.{is_active}
use Rattle.mls_review.specs.Flows.{has_live}
use Rattle.mls_review.proofs.Ranges.{all_kept, fewer}
use Rattle.mls_review.proofs.flows.permitted.Goals as goal

pub returns-clause-active : goal.returns-clause-active
returns-clause-active g c =
    all_kept (λ o. is_active c.args.state.now o ≡ true) (has_live c.args.state.now c.args.s c.args.x) c.args.objects.now c.loop-o.found.items c.loop-o.o-index
    c.loop-o.invariant c.requires.active

pub returns-clause-few : goal.returns-clause-few
returns-clause-few g c =
    fewer (has_live c.args.state.now c.args.s c.args.x) c.args.objects.now c.loop-o.found.items c.loop-o.o-index c.loop-o-test.false c.loop-o.invariant
