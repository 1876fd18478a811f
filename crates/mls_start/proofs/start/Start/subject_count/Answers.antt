use Rattle.mls_start.proofs.Sourced.{secure_source}
use Rattle.mls_start.proofs.start.Start.subject_count.Goals as goal

pub returns-in-Rows-clause-secure : goal.returns-in-Rows-clause-secure
returns-in-Rows-clause-secure g c = rw (← c.self.view_is) (secure_source c.self.inside.source c.self.invariant.0)
