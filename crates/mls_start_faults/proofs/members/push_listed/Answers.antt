use Rattle.std.proofs.Common.{ap}
use Rattle.mls_start_faults.proofs.Repeated.{pushed_as}
use Rattle.mls_start_faults.specs.Members.{listed_at}
use Rattle.mls_start_faults.proofs.members.push_listed.Goals as goal

pub returns-in-None : goal.returns-in-None
returns-in-None c = pushed_as c.push_place.result _ _ _ _ _ c.list.ensures (ap (listed_at c.args.row c.args.list.now) c.in-None.ensures) c.push_place.ensures
