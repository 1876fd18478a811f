use Rattle.mls_page.specs.Heads.{all_links, link_to}
use Rattle.mls_page.proofs.head.add_all.Goals as goal

pub returns : goal.returns
unfolding all_links link_to
returns c = c.in_ok-add_each.ensures
