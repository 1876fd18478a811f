use Rattle.mls_state.proofs.Holders.{active_listed}
use Rattle.mls_state.proofs.state.State.objects_of.Goals as goal

pub returns-clause-active : goal.returns-clause-active
returns-clause-active g c = rw (← c.self.view_is) (active_listed c.self.inside c.self.invariant c.args.s c.objects_of.result.now c.objects_of.ensures.each)
