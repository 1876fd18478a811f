use Rattle.mls_laws.proofs.Kept.{integrity_kept, stays_between}
use Rattle.mls_laws.proofs.unchanging.objects_keep_their_integrity.Goals as goal

pub returns : goal.returns
returns c = record {
  stays = integrity_kept;
  ends = λ v entries o h one active there. integrity_kept v entries o h (stays_between v entries o one h.tree active there);
}
