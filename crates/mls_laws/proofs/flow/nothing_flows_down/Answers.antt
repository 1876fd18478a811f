use Rattle.mls_laws.proofs.FlowLabels.{step_up, chain_up}
use Rattle.mls_laws.proofs.flow.nothing_flows_down.Goals as goal

pub returns : goal.returns
returns c = record { step = λ v a b h. step_up v h a b; chain = λ v a b h. chain_up v h a b }
