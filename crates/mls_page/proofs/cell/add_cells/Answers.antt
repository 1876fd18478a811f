use Rattle.std.proofs.Common.{◌∙◌, ap}
use Rattle.mls_markup.specs.Drafts.{added}
use Rattle.mls_markup.proofs.Laws.{row_next}
use Rattle.mls_page.specs.Tables.{cell_of}
use Rattle.mls_page.specs.declared.cell.Cell.{Cell}
use Rattle.mls_page.proofs.cell.add_cells.Goals as goal

pub loop-cell-preserved : goal.loop-cell-preserved
loop-cell-preserved c =
    row_next c.args.page.now c.loop-cell.page c.add_cell.new.page cell_of c.args.cells.now c.loop-cell.cell-index c.cell-item.result
    c.loop-cell-test.true c.loop-cell.invariant
    (c.in_ok-add_cell.ensures ∙ ap (λ (k : Cell). added c.loop-cell.page (cell_of k)) c.cell-item.is)
