use Rattle.std.proofs.Common.{subst}
use Rattle.mls_markup.specs.Drafts.{Draft}
use Rattle.mls_page.specs.Reports.{HasFirst}
use Rattle.mls_page.proofs.report.add_sections.Goals as goal

pub returns : goal.returns
returns c =
    let r = c.args.rows.now in
    record {
      middle = c.add_first.new.page;
      first_sections =
          subst (λ (d : Draft). HasFirst r d c.add_first.new.page)
          c.in_ok-add_about.ensures c.in_ok-add_first.ensures;
      last_sections = c.in_ok-add_last.ensures;
    }
