use Rattle.mls_listings.specs.Stamps.{rows_lent}
use Rattle.mls_page.specs.Usage.{is_wanted, permission_row}
use Rattle.mls_page.proofs.Listed.{left_next, listed_next}
use Rattle.mls_page.proofs.each.add_where.Goals as goal

pub loop-usage-preserved : goal.loop-usage-preserved
loop-usage-preserved c =
    let shown = permission_row c.args.names.now (rows_lent c.args.marks) c.args.all.now in
    let test = is_wanted c.args.is_granted in
    record {
      rows = listed_next c.args.page.now c.loop-usage.page c.add_wanted.new.page shown test c.args.most c.loop-usage.left c.args.usages.now
          c.loop-usage.usage-index c.usage-item.result c.loop-usage-test.true c.usage-item.is c.loop-usage.invariant.rows
          c.loop-usage.invariant.left c.in_ok-left.ensures.rows;
      left = left_next test c.args.most c.loop-usage.left c.in_ok-left.left c.args.usages.now c.loop-usage.usage-index c.usage-item.result
          c.loop-usage-test.true c.usage-item.is c.loop-usage.invariant.left c.in_ok-left.ensures.left;
    }
