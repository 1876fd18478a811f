use Rattle.std.proofs.Common.{◌∙◌, ap}
use Rattle.mls_markup.specs.Drafts.{added, closed, lined}
use Rattle.mls_page.specs.Sections.{listed}
use Rattle.mls_page.proofs.section.add_listed.Goals as goal

pub returns : goal.returns
unfolding listed
returns c = record {
  tree = c.in_ok-add_sheet.ensures.tree;
  is = c.in_ok-end_line.ensures ∙ ap (λ d. lined (closed d)) (c.in_ok-add_sheet.ensures.is ∙ ap (λ d. added d c.in_ok-add_sheet.ensures.tree) c.in_ok-begin_listed.ensures);
}
