use Rattle.std.proofs.Common.{◌≡◌, take}
use Rattle.mls_markup.specs.Drafts.{added}
use Rattle.mls_markup.specs.Trees.{all_of}
use Rattle.mls_page.specs.Counts.{reason_row}
use Rattle.mls_page.proofs.counts.reason_rows.Given as goal

-- those so far
abbrev pub invariant-loop-row : goal.invariant-loop-row
invariant-loop-row l = l.page ≡ added l.fn.page (all_of (reason_row l.units) (take l.row-index l.rows))
