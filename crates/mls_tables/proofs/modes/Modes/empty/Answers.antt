use Rattle.std.proofs.Common.{rules}
use Rattle.mls_tables.proofs.ModeBits.{modes_of-none}
use Rattle.mls_tables.proofs.modes.Modes.empty.Goals as goal

pub returns : goal.returns
returns c = search (rules, modes_of-none)
