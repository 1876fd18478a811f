use Rattle.mls_c.proofs.LabelAccesses.{conditions_behind, replies_alike}
use Rattle.mls_c.proofs.theorems.labels_decide_as_objects_do.Goals as goal

pub returns : goal.returns
returns c = record { conditions = conditions_behind; reply = replies_alike }
