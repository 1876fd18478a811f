use Rattle.std.proofs.Common.{◌≡◌, take}
use Rattle.mls_markup.specs.Drafts.{added}
use Rattle.mls_markup.specs.Trees.{all_of}
use Rattle.mls_page.specs.Tables.{column_of}
use Rattle.mls_page.proofs.table.add_columns.Given as goal

-- those so far
abbrev pub invariant-loop-title : goal.invariant-loop-title
invariant-loop-title l = l.page ≡ added l.fn.page (all_of column_of (take l.title-index l.titles))
