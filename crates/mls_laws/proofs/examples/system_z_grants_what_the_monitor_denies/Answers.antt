use Rattle.std.specs.Prelude.{[], ◌∷◌, refl}
use Rattle.mls_tables.specs.declared.mode.Mode.TheVariants.{Write}
use Rattle.mls_laws.specs.Examples.{bob_writes_plans}
use Rattle.mls_laws.proofs.ExampleStart.{start, start_secure, known}
use Rattle.mls_laws.proofs.Journalled.{not_z}
use Rattle.mls_laws.proofs.Lowered.{get_answer, get_held, run_secure}
use Rattle.mls_laws.proofs.Replied.{bob_denied}
use Rattle.mls_laws.proofs.examples.system_z_grants_what_the_monitor_denies.Goals as goal

pub returns : goal.returns
returns c = record {
  denied = bob_denied;
  granted = get_answer start 1 1 Write (known 1 1 refl);
  held = get_held start 1 1 Write (known 1 1 refl);
  secure = run_secure start (bob_writes_plans ∷ []) start_secure;
  journals = not_z;
}
