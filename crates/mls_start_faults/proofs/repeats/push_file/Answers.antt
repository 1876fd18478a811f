use Rattle.mls_start_faults.proofs.Repeated.{pushed_where}
use Rattle.mls_start_faults.proofs.repeats.push_file.Goals as goal

pub returns : goal.returns
returns c = pushed_where c.push_where.result _ _ _ _ _ _ c.is_repeated.ensures c.list.ensures c.push_where.ensures
