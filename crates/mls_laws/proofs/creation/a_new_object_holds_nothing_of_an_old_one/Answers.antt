use Rattle.mls_laws.proofs.Created.{created_anew}
use Rattle.mls_laws.proofs.creation.a_new_object_holds_nothing_of_an_old_one.Goals as goal

pub returns : goal.returns
returns c = created_anew
