use Rattle.mls_markup.proofs.Laws.{row_next}
use Rattle.mls_page.specs.Counts.{reason_row}
use Rattle.mls_page.proofs.counts.reason_rows.Goals as goal

pub loop-row-preserved : goal.loop-row-preserved
loop-row-preserved c =
    row_next c.args.page.now c.loop-row.page c.reason_row.new.page (reason_row c.args.units) c.args.rows.now c.loop-row.row-index _
    c.loop-row-test.true c.loop-row.invariant c.in_ok-reason_row.ensures
