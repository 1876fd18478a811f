use Rattle.mls_runs.proofs.OneScript.{one_script}
use Rattle.mls_runs.proofs.theorems.one_script_runs_alike.Goals as goal

pub returns : goal.returns
returns c = λ names start script asked output journal so. one_script names start script asked output journal so
