use Rattle.mls_laws.proofs.SevenStates.{all_of, secure_from}
use Rattle.mls_laws.proofs.seven.secure_is_all_seven.Goals as goal

pub returns : goal.returns
returns c = λ v. (all_of v, secure_from v)
