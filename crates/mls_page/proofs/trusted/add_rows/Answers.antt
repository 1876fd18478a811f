use Rattle.std.proofs.Common.{◌∙◌, ap}
use Rattle.mls_markup.specs.Drafts.{added}
use Rattle.mls_markup.proofs.Laws.{row_next}
use Rattle.mls_page.specs.Trusted.{trust_row}
use Rattle.mls_page.specs.declared.trusted.Trusting.{Trusting}
use Rattle.mls_page.proofs.trusted.add_rows.Goals as goal

pub loop-row-preserved : goal.loop-row-preserved
loop-row-preserved c =
    let shown = trust_row c.args.names.now c.args.units in
    row_next c.args.page.now c.loop-row.page c.subject_row.new.page shown c.args.rows.now c.loop-row.row-index c.row-item.result c.loop-row-test.true
    c.loop-row.invariant (c.in_ok-subject_row.ensures ∙ ap (λ (r : Trusting). added c.loop-row.page (shown r)) c.row-item.is)
