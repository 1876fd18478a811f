use Rattle.mls_labels.proofs.Laws.{labels_same}
use Rattle.mls_tests_rules.proofs.values.labels.is_same.Goals as goal

pub returns : goal.returns
returns c = rw c.eq.ensures (labels_same c.args.a c.args.b)
