use Rattle.mls_markup.proofs.Laws.{row_next}
use Rattle.mls_page.specs.Terms.{term_of}
use Rattle.mls_page.proofs.terms.add_lines.Goals as goal

pub loop-term-preserved : goal.loop-term-preserved
loop-term-preserved c =
    row_next c.args.page.now c.loop-term.page c.add_term.new.page term_of c.args.rows.now c.loop-term.term-index _
    c.loop-term-test.true c.loop-term.invariant c.in_ok-add_term.ensures
