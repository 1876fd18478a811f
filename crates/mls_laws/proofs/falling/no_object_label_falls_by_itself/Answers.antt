use Rattle.mls_laws.proofs.Kept.{stays_between}
use Rattle.mls_laws.proofs.Falls.{never_falls}
use Rattle.mls_laws.proofs.falling.no_object_label_falls_by_itself.Goals as goal

pub returns : goal.returns
returns c = record {
  stays = never_falls;
  ends = λ v entries o h one untrusted active there. never_falls v entries o h untrusted (stays_between v entries o one h.tree active there);
}
