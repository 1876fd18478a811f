use Rattle.std.proofs.Common.{false, true}
use Rattle.std.specs.Prelude.{filter}
use Rattle.mls_listings.specs.Stamps.{rows_lent}
use Rattle.mls_page.specs.Usage.{is_wanted, permission_row}
use Rattle.mls_page.specs.declared.section.TheConstants.{LISTED}
use Rattle.mls_page.proofs.Listed.{both_listed}
use Rattle.mls_page.proofs.each.permission_rows.Goals as goal

pub returns : goal.returns
returns c =
    let shown = permission_row c.args.names.now (rows_lent c.args.marks) c.args.all.now in
    let usages = c.args.usages.now in
    both_listed c.args.page.now c.add_where.new.page c.add_where-2.new.page shown LISTED c.in_ok-left.left (filter (is_wanted false) usages)
    (filter (is_wanted true) usages) c.in_ok-left.ensures.rows c.in_ok-left.ensures.left c.in_ok-add_where.ensures.rows
