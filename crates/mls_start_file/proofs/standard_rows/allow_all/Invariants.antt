use Rattle.std.proofs.Common.{◌≡◌, drop}
use Rattle.mls_state.specs.First.{with_triples}
use Rattle.mls_start_file.proofs.standard_rows.allow_all.Given as goal

-- all but the cells is as it was, and the cells with those that are left are the cells with all
abbrev pub invariant-loop-cell : goal.invariant-loop-cell
invariant-loop-cell g l = record {
  same : l.builder ≡ record l.fn.builder { cells = l.builder.cells };
  cells : with_triples l.builder.cells (drop l.cell-index l.cells) ≡ with_triples l.fn.builder.cells l.cells;
}
