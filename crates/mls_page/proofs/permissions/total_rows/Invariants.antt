use Rattle.std.proofs.Common.{◌≡◌, take}
use Rattle.mls_listings.specs.Stamps.{rows_lent}
use Rattle.mls_markup.specs.Drafts.{added}
use Rattle.mls_markup.specs.Trees.{all_of}
use Rattle.mls_page.specs.Shown.{shown_at}
use Rattle.mls_page.specs.Usage.{total_row}
use Rattle.mls_page.proofs.permissions.total_rows.Given as goal

-- those so far
abbrev pub invariant-loop-place : goal.invariant-loop-place
invariant-loop-place l =
    l.page ≡ added l.fn.page (all_of (shown_at (total_row l.names (rows_lent l.marks) l.all) l.totals) (take l.place-index l.places))
