use Rattle.std.proofs.Common.{◌≡◌, take}
use Rattle.mls_markup.specs.Drafts.{added}
use Rattle.mls_markup.specs.Trees.{all_of}
use Rattle.mls_page.specs.Tables.{cell_of}
use Rattle.mls_page.proofs.cell.add_cells.Given as goal

-- those so far
abbrev pub invariant-loop-cell : goal.invariant-loop-cell
invariant-loop-cell l = l.page ≡ added l.fn.page (all_of cell_of (take l.cell-index l.cells))
