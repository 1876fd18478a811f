use Rattle.mls_markup.proofs.Laws.{row_next}
use Rattle.mls_page.specs.Tables.{column_of}
use Rattle.mls_page.proofs.table.add_columns.Goals as goal

pub loop-title-preserved : goal.loop-title-preserved
loop-title-preserved c =
    row_next c.args.page.now c.loop-title.page c.add_column.new.page column_of c.args.titles.now c.loop-title.title-index _
    c.loop-title-test.true c.loop-title.invariant c.in_ok-add_column.ensures
