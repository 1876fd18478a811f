use Rattle.mls_scripts.proofs.Alone.{alone}
use Rattle.mls_scripts.proofs.theorems.a_script_alone_is_served.Goals as goal

pub returns : goal.returns
returns c = λ names session s lines since xs text legal only are prints. alone names session xs s since lines text legal only are prints
