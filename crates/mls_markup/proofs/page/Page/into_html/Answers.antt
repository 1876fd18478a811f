use Rattle.std.proofs.Common.{rules, ◌≡◌, ◌++◌, true, length, reverse, subst, arith}
use Rattle.mls_markup.specs.Documents.{bottom_text}
use Rattle.mls_markup.specs.Pages.{IsPart}
use Rattle.mls_markup.proofs.Parts.{part_page}
use Rattle.mls_markup.proofs.page.Page.into_html.Goals as goal

pub returns-clause-page : goal.returns-clause-page
returns-clause-page c =
    let html = c.self.inside.html.items in
    let tags = c.self.inside.tags.items in
    let is : c.extend_from_slice.new.self.items ≡ html ++ bottom_text = search rules in
    let none : length tags ≡ 0 = omega arith in
    let whole : c.self.inside.is_whole ≡ true = search rules in
    part_page html c.extend_from_slice.new.self.items tags is none (subst (λ w. IsPart w html (reverse tags)) whole (c.self.invariant c.if-is_torn.false))
