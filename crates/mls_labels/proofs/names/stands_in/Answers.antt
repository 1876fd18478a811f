use Rattle.std.proofs.Common.{◌∙◌}
use Rattle.mls_labels.proofs.NameLists.{any_other}
use Rattle.mls_labels.proofs.names.stands_in.Goals as goal

pub returns : goal.returns
returns c = c.contains.ensures.value ∙ any_other c.args.text.now c.args.others.now
