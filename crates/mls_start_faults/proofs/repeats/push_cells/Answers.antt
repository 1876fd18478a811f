use Rattle.mls_start_faults.proofs.Repeated.{twice_pushed}
use Rattle.mls_start_faults.proofs.repeats.push_cells.Goals as goal

pub returns : goal.returns
returns c = twice_pushed c.push_list_part-2.result _ _ _ _ _ c.in_ok-push_list_part.ensures c.push_list_part-2.ensures
