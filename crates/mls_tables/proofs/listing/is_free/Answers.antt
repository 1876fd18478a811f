use Rattle.mls_tables.proofs.Held.{free_is}
use Rattle.mls_tables.proofs.listing.is_free.Goals as goal

pub returns : goal.returns
returns g c = free_is c.modes.result c.args.matrix.now.triples c.args.s c.args.o c.is_empty.result c.modes.ensures.cell c.is_empty.ensures
