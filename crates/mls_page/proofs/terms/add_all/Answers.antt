use Rattle.mls_page.specs.Terms.{term_lines}
use Rattle.mls_page.proofs.terms.add_all.Goals as goal

pub returns : goal.returns
unfolding term_lines
returns c = c.in_ok-add_lines.ensures
