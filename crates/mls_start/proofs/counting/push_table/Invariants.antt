use Rattle.std.proofs.Common.{◌≡◌, ◌++◌}
use Rattle.mls_state.specs.Tables.{triples_of}
use Rattle.mls_tables.specs.declared.limits.TheConstants.{MAX_OBJECTS}
use Rattle.mls_start.specs.TripleLists.{rows_below}
use Rattle.mls_start.proofs.counting.push_table.Given as goal

-- the triples of the numbers so far
abbrev pub invariant-loop-s : goal.invariant-loop-s
invariant-loop-s g l = l.triples.items ≡ l.fn.triples.items ++ rows_below (triples_of l.table l.state) l.s MAX_OBJECTS
