use Rattle.mls_laws.proofs.Lowered.{run_secure}
use Rattle.mls_laws.proofs.machine_z.system_z_keeps_every_state_secure.Goals as goal

pub returns : goal.returns
returns c = run_secure
