use Rattle.mls_flows.proofs.Arrives.{arrives}
use Rattle.mls_flows.proofs.NeverArrives.{never_arrives}
use Rattle.mls_flows.proofs.exact.content_arrives_where_the_closure_has_it.Goals as goal

pub returns : goal.returns
returns c = λ v acts room from p h whole within own rooms active. (arrives v acts room from p h whole within own rooms active, never_arrives v acts room from p h rooms active)
