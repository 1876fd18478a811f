use Rattle.mls_markup.proofs.Laws.{row_next}
use Rattle.mls_page.specs.Heads.{link_to}
use Rattle.mls_page.proofs.head.add_each.Goals as goal

pub loop-section-preserved : goal.loop-section-preserved
loop-section-preserved c =
    row_next c.args.page.now c.loop-section.page c.add_link.new.page link_to c.args.sections.now c.loop-section.section-index _
    c.loop-section-test.true c.loop-section.invariant c.in_ok-add_link.ensures
