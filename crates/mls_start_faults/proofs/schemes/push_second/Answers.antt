use Rattle.mls_start_faults.proofs.Repeated.{pushed}
use Rattle.mls_start_faults.proofs.schemes.push_second.Goals as goal

pub returns : goal.returns
returns c = pushed c.push_place.result _ _ _ _ c.name.ensures c.push_place.ensures
