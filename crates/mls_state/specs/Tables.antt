-- The two tables of triples of a state.
use Rattle.mls_tables.specs.Triples.{TripleSet}
use Rattle.mls_state.specs.State.{State}
use Rattle.mls_state.specs.declared.table.Table.{Table}
use Rattle.mls_state.specs.declared.table.Table.TheVariants.{Matrix, Accesses}

-- The triples of a table. (own)
abbrev pub triples_of : Table → State → TripleSet
triples_of Matrix v = v.matrix
triples_of Accesses v = v.accesses
