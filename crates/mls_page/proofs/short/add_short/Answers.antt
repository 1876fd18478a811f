use Rattle.std.proofs.Common.{◌∙◌, ap}
use Rattle.mls_markup.specs.Drafts.{Draft, added}
use Rattle.mls_page.specs.Sections.{section}
use Rattle.mls_page.specs.Short.{ended_short, short}
use Rattle.mls_page.proofs.short.add_short.Goals as goal

pub returns : goal.returns
unfolding short section
returns c =
    let told = c.in_ok-add_sheet.ensures.tree in
    record {
      told = told;
      is =
          c.in_ok-end_short.ensures ∙ ap (ended_short c.args.short.now c.args.found)
          (c.in_ok-add_sheet.ensures.is ∙ ap (λ (d : Draft). added d told) c.in_ok-begin_short.ensures);
    }
