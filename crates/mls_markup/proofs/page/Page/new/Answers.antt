use Rattle.std.proofs.Common.{true, sym, subst, reverse, ap}
use Rattle.mls_markup.specs.Pages.{IsPart}
use Rattle.mls_markup.proofs.Parts.{part_first, draft_first}
use Rattle.mls_markup.proofs.page.Page.new.Goals as goal

pub invariant_of-result : goal.invariant_of-result
invariant_of-result c = λ h. subst (λ ts. IsPart true c.in_ok-html.html.items ts) (sym (ap reverse c.new.ensures.items))
    (part_first true c.in_ok-html.html.items c.args.title.now c.in_ok-html.ensures)

pub returns : goal.returns
returns c = draft_first c.in_ok-html.html.items c.args.title.now c.new.result.items c.in_ok-html.ensures c.new.ensures.items
