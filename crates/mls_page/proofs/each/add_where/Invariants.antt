use Rattle.std.proofs.Common.{◌≡◌, ◌-◌, length, take}
use Rattle.std.specs.Prelude.{filter}
use Rattle.mls_listings.specs.Stamps.{rows_lent}
use Rattle.mls_markup.specs.Drafts.{added}
use Rattle.mls_markup.specs.Trees.{all_of}
use Rattle.mls_page.specs.Usage.{is_wanted, permission_row}
use Rattle.mls_page.proofs.each.add_where.Given as goal

-- those so far that are to be listed, as many as there may be
abbrev pub invariant-loop-usage : goal.invariant-loop-usage
invariant-loop-usage l = record {
  rows : l.page ≡ added l.fn.page (all_of (permission_row l.names (rows_lent l.marks) l.all)
      (take l.most (filter (is_wanted l.is_granted) (take l.usage-index l.usages))));
  left : l.left ≡ l.most - length (filter (is_wanted l.is_granted) (take l.usage-index l.usages));
}
