use Rattle.std.proofs.Common.{◌∙◌, ap}
use Rattle.mls_markup.specs.Drafts.{added}
use Rattle.mls_markup.proofs.Laws.{row_next}
use Rattle.mls_page.specs.Powers.{power_item}
use Rattle.mls_page.proofs.changes.power_items.Goals as goal
use Rattle.mls_review.specs.declared.change.Change.{Change}

pub loop-change-preserved : goal.loop-change-preserved
loop-change-preserved c =
    let shown = power_item c.args.names.now in
    row_next c.args.page.now c.loop-change.page c.power_item.new.page shown c.args.changes.now c.loop-change.change-index c.change-item.result
    c.loop-change-test.true c.loop-change.invariant (c.in_ok-power_item.ensures ∙ ap (λ (a : Change). added c.loop-change.page (shown a)) c.change-item.is)
