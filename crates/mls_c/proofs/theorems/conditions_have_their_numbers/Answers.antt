use Rattle.mls_c.proofs.ReadConditions.{condition_apart, few_conditions}
use Rattle.mls_c.proofs.theorems.conditions_have_their_numbers.Goals as goal

pub returns : goal.returns
returns c = record { apart = condition_apart; few = few_conditions }
