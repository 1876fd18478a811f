use Rattle.mls_laws.proofs.FlowLabels.{used_above, fed_above}
use Rattle.mls_laws.proofs.flow.subjects_use_what_is_as_trustworthy.Goals as goal

pub returns : goal.returns
returns c = record { used = λ v s b x h. used_above v h s b x; reached = λ v s a b x h. fed_above v h s a b x }
