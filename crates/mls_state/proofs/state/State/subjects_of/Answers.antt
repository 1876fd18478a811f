use Rattle.mls_state.proofs.Holders.{known_listed}
use Rattle.mls_state.proofs.state.State.subjects_of.Goals as goal

pub returns-clause-known : goal.returns-clause-known
returns-clause-known g c = rw (← c.self.view_is) (known_listed c.self.inside c.self.invariant c.args.o c.subjects_of.result.now c.subjects_of.ensures.each)
