use Rattle.mls_labels.proofs.LabelWrites.{written_spells}
use Rattle.mls_labels.proofs.theorems.a_written_label_is_spelled.Goals as goal

pub returns : goal.returns
returns c = written_spells
