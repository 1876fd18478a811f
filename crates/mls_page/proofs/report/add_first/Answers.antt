use Rattle.mls_page.specs.Reports.{HasFirst}
use Rattle.mls_page.proofs.report.add_first.Goals as goal

pub returns : goal.returns
returns c = record {
  behind_short = c.add_short.new.page;
  behind_terms = c.add_terms.new.page;
  behind_denials = c.add_denials.new.page;
  behind_trust = c.add_trust.new.page;
  in_short = c.in_ok-add_short.ensures;
  words = c.in_ok-add_terms.ensures;
  denials = c.in_ok-add_denials.ensures;
  trusts = c.in_ok-add_trust.ensures;
  usage = c.in_ok-add_usage.ensures;
}
