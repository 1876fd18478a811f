use Rattle.mls_rows.proofs.EntryTimes.{time_is}
use Rattle.mls_rows.proofs.times.time_of.Goals as goal

pub returns : goal.returns
returns c = time_is c.args.marks.now c.args.number c.time_of.result c.time_of.ensures
