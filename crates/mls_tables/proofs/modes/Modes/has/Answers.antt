use Rattle.std.proofs.Common.{rules}
use Rattle.std.proofs.lemmas.Nat.Bits.{shr_and_one}
use Rattle.mls_tables.proofs.ModeBits.{contains-modes_of}
use Rattle.mls_tables.proofs.modes.Modes.has.Goals as goal

pub returns : goal.returns
returns c = rw (← c.self.view_is, c.number.ensures, shr_and_one, contains-modes_of) (search rules)
