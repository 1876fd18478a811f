use Rattle.mls_laws.proofs.Answered.{legal_run}
use Rattle.mls_laws.proofs.Kept.{stays_between}
use Rattle.mls_laws.proofs.Falls.{label_after, current_after}
use Rattle.mls_laws.proofs.falling.labels_change_only_when_it_is_granted.Goals as goal

pub returns : goal.returns
returns c = record {
  object = λ v entries o h legal stays. label_after v entries o (legal_run v entries legal) h stays;
  ends = λ v entries o h one legal active there. label_after v entries o (legal_run v entries legal) h (stays_between v entries o one h.tree active there);
  subject = λ v entries s legal. current_after v entries s (legal_run v entries legal);
}
