use Rattle.mls_labels.proofs.Laws.{reflexive, antisymmetric, transitive}
use Rattle.mls_labels.proofs.theorems.dominance_is_a_partial_order.Goals as goal

pub returns : goal.returns
returns c = record { reflexive = reflexive; antisymmetric = antisymmetric; transitive = transitive }
