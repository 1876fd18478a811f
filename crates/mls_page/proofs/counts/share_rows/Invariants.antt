use Rattle.std.proofs.Common.{◌≡◌, take}
use Rattle.mls_markup.specs.Drafts.{added}
use Rattle.mls_markup.specs.Trees.{all_of}
use Rattle.mls_page.specs.Counts.{share_row}
use Rattle.mls_page.specs.Shown.{shown_at}
use Rattle.mls_page.proofs.counts.share_rows.Given as goal

-- those so far
abbrev pub invariant-loop-place : goal.invariant-loop-place
invariant-loop-place l =
    l.page ≡ added l.fn.page (all_of (shown_at (share_row l.names l.sums l.units) l.shares) (take l.place-index l.places))
