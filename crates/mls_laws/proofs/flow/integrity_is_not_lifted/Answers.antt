use Rattle.mls_laws.proofs.FlowLabels.{step_down, chain_down}
use Rattle.mls_laws.proofs.flow.integrity_is_not_lifted.Goals as goal

pub returns : goal.returns
returns c = record { step = λ v a b h. step_down v h a b; chain = λ v a b h. chain_down v h a b }
