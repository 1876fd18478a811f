use Rattle.mls_tables.proofs.TakenRuns.{parts_found, parts_missed}
use Rattle.mls_tables.proofs.runs.place_of_first.Goals as goal

pub returns-in-Ok-clause-parts : goal.returns-in-Ok-clause-parts
returns-in-Ok-clause-parts c up = parts_found c.args.list.now c.args.first c.in-Ok.k up (c.in-Ok.ensures.place up)

pub returns-in-Err-clause-parts : goal.returns-in-Err-clause-parts
returns-in-Err-clause-parts c up = parts_missed c.args.list.now c.args.first c.in-Err.k (c.in-Err.ensures.place up)
