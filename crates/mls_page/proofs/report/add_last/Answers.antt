use Rattle.mls_page.specs.Reports.{HasLast}
use Rattle.mls_page.proofs.report.add_last.Goals as goal

pub returns : goal.returns
returns c = record {
  behind_held = c.add_spans.new.page;
  behind_powers = c.add_powers.new.page;
  behind_futures = c.add_futures.new.page;
  behind_counts = c.add_counts.new.page;
  behind_lattice = c.add_lattice.new.page;
  held = c.in_ok-add_spans.ensures;
  powers = c.in_ok-add_powers.ensures;
  futures = c.in_ok-add_futures.ensures;
  counts = c.in_ok-add_counts.ensures;
  lattice = c.in_ok-add_lattice.ensures;
  verdict = c.in_ok-add_verified.ensures;
}
