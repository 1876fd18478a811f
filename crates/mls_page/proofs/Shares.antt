-- The table of subjects, as it begins.
use Rattle.std.proofs.Common.{[]}
use Rattle.std.specs.Prelude.{codes}
use Rattle.mls_markup.specs.Drafts.{Draft, added, opened}
use Rattle.mls_markup.specs.Trees.{Line, all_of}
use Rattle.mls_markup.specs.declared.tag.Tag.TheVariants as tag
use Rattle.mls_page.specs.Counts.{share_titles}
use Rattle.mls_page.specs.Tables.{column, table_head}
use Rattle.mls_page.specs.declared.share.Sums.{Sums}

-- a page with the beginning of the table
abbrev pub begun : Draft → Sums → Draft
begun d sums =
    added (opened (added (opened d tag.Table []) (table_head (codes "By the subject that asked") (all_of column (share_titles sums)))) tag.TableBody []) Line
