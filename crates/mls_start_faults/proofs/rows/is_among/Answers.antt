use Rattle.std.proofs.Common.{◌∙◌}
use Rattle.mls_start_faults.proofs.NameLists.{any_other}
use Rattle.mls_start_faults.proofs.rows.is_among.Goals as goal

pub returns : goal.returns
returns c = c.contains.ensures.value ∙ any_other c.args.key.now c.args.known.now
