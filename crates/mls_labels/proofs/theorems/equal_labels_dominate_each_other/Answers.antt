use Rattle.mls_labels.proofs.Laws.{each_other}
use Rattle.mls_labels.proofs.theorems.equal_labels_dominate_each_other.Goals as goal

pub returns : goal.returns
returns c = each_other
