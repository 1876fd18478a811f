use Rattle.mls_labels.proofs.Laws.{sets_same, labels_same, bounds_same}
use Rattle.mls_labels.proofs.theorems.equality_is_of_values.Goals as goal

pub returns : goal.returns
returns c = record { sets = sets_same; labels = labels_same; bounds = bounds_same }
