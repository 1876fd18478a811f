use Rattle.mls_laws.proofs.FlowLabels.{seen_below, reached_below}
use Rattle.mls_laws.proofs.flow.subjects_see_what_they_are_cleared_for.Goals as goal

pub returns : goal.returns
returns c = record { observed = λ v s b x h. seen_below v h s b x; reached = λ v s a b x h. reached_below v h s a b x }
