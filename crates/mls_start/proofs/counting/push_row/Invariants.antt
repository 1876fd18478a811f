use Rattle.std.proofs.Common.{◌≡◌, ◌++◌}
use Rattle.mls_state.specs.Tables.{triples_of}
use Rattle.mls_start.specs.TripleLists.{row_below}
use Rattle.mls_start.proofs.counting.push_row.Given as goal

-- the triples of the numbers so far
abbrev pub invariant-loop-o : goal.invariant-loop-o
invariant-loop-o g l = l.triples.items ≡ l.fn.triples.items ++ row_below (triples_of l.table l.state) l.s l.o
