use Rattle.std.proofs.Common.{rules}
use Rattle.mls_tables.proofs.Cells.{triples_of-none}
use Rattle.mls_tables.proofs.matrix.Matrix.new.Goals as goal

pub returns : goal.returns
returns g c = search (rules, triples_of-none)
