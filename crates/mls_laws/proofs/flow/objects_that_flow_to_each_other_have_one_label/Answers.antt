use Rattle.mls_laws.proofs.FlowLabels.{chain_level}
use Rattle.mls_laws.proofs.flow.objects_that_flow_to_each_other_have_one_label.Goals as goal

pub returns : goal.returns
returns c = λ v a b h. chain_level v h a b
