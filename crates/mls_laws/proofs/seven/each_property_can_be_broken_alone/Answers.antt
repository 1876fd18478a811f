use Rattle.mls_laws.proofs.SevenStates.{broken_alone}
use Rattle.mls_laws.proofs.seven.each_property_can_be_broken_alone.Goals as goal

pub returns : goal.returns
returns c = broken_alone
