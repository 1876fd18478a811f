use Rattle.mls_futures.proofs.Granted.{brings_about}
use Rattle.mls_futures.proofs.exact.a_script_brings_it_about.Goals as goal

pub returns : goal.returns
returns c = brings_about
