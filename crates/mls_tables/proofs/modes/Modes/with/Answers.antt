use Rattle.std.proofs.Common.{rules}
use Rattle.mls_tables.proofs.ModeBits.{modes_of-with, or-lt-four}
use Rattle.mls_tables.proofs.modes.Modes.with.Goals as goal

pub invariant_of-result : goal.invariant_of-result
invariant_of-result c = rw c.number.ensures (search (rules, or-lt-four))

pub returns : goal.returns
returns c = rw (← c.self.view_is, c.number.ensures) (search (rules, modes_of-with))
