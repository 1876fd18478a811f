use Rattle.std.proofs.Common.{subst}
use Rattle.mls_markup.specs.Drafts.{Draft}
use Rattle.mls_page.specs.Reports.{HasSections}
use Rattle.mls_page.proofs.report.report_page.Goals as goal

pub returns-clause-report : goal.returns-clause-report
returns-clause-report c = record {
  last = c.add_sections.new.page;
  sections =
      subst (λ (d : Draft). HasSections c.args.rows.now d c.add_sections.new.page) c.in_ok-page.ensures
      c.in_ok-add_sections.ensures;
  bytes_are = c.in_ok-html.ensures.bytes;
}
