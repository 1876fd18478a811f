use Rattle.std.specs.Prelude.{map}
use Rattle.mls_markup.proofs.Laws.{row_next}
use Rattle.mls_page.specs.Powers.{power_row}
use Rattle.mls_page.specs.Shown.{shown_at}
use Rattle.mls_page.proofs.powers.power_rows.Goals as goal

pub loop-place-preserved : goal.loop-place-preserved
loop-place-preserved c =
    let shown = shown_at (power_row c.args.names.now) (map (λ run. run.now) c.args.runs.now) in
    row_next c.args.page.now c.loop-place.page c.power_at.new.page shown c.args.places.now c.loop-place.place-index _
    c.loop-place-test.true c.loop-place.invariant c.in_ok-power_at.ensures
