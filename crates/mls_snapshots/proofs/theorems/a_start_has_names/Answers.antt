use Rattle.mls_snapshots.proofs.StartNames.{start_names}
use Rattle.mls_snapshots.proofs.theorems.a_start_has_names.Goals as goal

pub returns : goal.returns
returns c = start_names
