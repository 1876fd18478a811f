use Rattle.std.proofs.Common.{rules}
use Rattle.mls_tables.proofs.ModeBits.{modes_of-without}
use Rattle.mls_tables.proofs.modes.Modes.without.Goals as goal

pub returns : goal.returns
returns c = rw (← c.self.view_is, c.number.ensures) (search (rules, modes_of-without))
