use Rattle.mls_markup.proofs.Laws.{row_next}
use Rattle.mls_page.specs.Counts.{share_row}
use Rattle.mls_page.specs.Shown.{shown_at}
use Rattle.mls_page.proofs.counts.share_rows.Goals as goal

pub loop-place-preserved : goal.loop-place-preserved
loop-place-preserved c =
    let shown = shown_at (share_row c.args.names.now c.args.sums.now c.args.units) c.args.shares.now in
    row_next c.args.page.now c.loop-place.page c.share_at.new.page shown c.args.places.now c.loop-place.place-index _
    c.loop-place-test.true c.loop-place.invariant c.in_ok-share_at.ensures
