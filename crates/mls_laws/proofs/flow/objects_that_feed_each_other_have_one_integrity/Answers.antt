use Rattle.mls_laws.proofs.FlowLabels.{chain_even}
use Rattle.mls_laws.proofs.flow.objects_that_feed_each_other_have_one_integrity.Goals as goal

pub returns : goal.returns
returns c = λ v a b h. chain_even v h a b
