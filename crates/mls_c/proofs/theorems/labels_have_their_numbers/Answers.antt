use Rattle.mls_c.proofs.ReadBack.{label_read, label_apart}
use Rattle.mls_c.proofs.theorems.labels_have_their_numbers.Goals as goal

pub returns : goal.returns
returns c = record { read = label_read; apart = label_apart }
