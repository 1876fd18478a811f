use Rattle.mls_tables.proofs.Cells.{IsWithin-triples_of}
use Rattle.mls_tables.proofs.matrix.Matrix.columns.Goals as goal

pub returns-clause-within : goal.returns-clause-within
returns-clause-within g c = rw (← c.self.view_is) (IsWithin-triples_of c.self.inside.cells.items c.self.inside.subjects c.self.inside.columns)
