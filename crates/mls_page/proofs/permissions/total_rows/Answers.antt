use Rattle.mls_listings.specs.Stamps.{rows_lent}
use Rattle.mls_markup.proofs.Laws.{row_next}
use Rattle.mls_page.specs.Shown.{shown_at}
use Rattle.mls_page.specs.Usage.{total_row}
use Rattle.mls_page.proofs.permissions.total_rows.Goals as goal

pub loop-place-preserved : goal.loop-place-preserved
loop-place-preserved c =
    let shown = shown_at (total_row c.args.names.now (rows_lent c.args.marks) c.args.all.now) c.args.totals.now in
    row_next c.args.page.now c.loop-place.page c.total_at.new.page shown c.args.places.now c.loop-place.place-index _
    c.loop-place-test.true c.loop-place.invariant c.in_ok-total_at.ensures
