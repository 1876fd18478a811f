use Rattle.std.proofs.lemmas.Bool.{and_from}
use Rattle.mls_state.specs.State.{is_subject, is_active}
use Rattle.mls_laws.proofs.Lowered.{not_shown, never_there}
use Rattle.mls_laws.proofs.machine_z.the_monitor_is_not_system_z.Goals as goal

pub returns : goal.returns
returns c = record {
  replies = not_shown;
  states = λ v s o t x l subject object. never_there v s o t x l (and_from (is_subject v s) (is_active v o) subject object);
}
