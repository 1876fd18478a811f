use Rattle.std.proofs.Common.{◌∙◌, ap, ℕ}
use Rattle.mls_markup.specs.Drafts.{Draft, added, closed, lined}
use Rattle.mls_markup.specs.Trees.{all_of}
use Rattle.mls_markup.specs.declared.tag.Tag.TheVariants as tag
use Rattle.mls_page.specs.Counts.{greatest_of, share_row, share_table, sums_of}
use Rattle.mls_page.specs.Shown.{shown_at}
use Rattle.mls_page.specs.Tables.{table}
use Rattle.mls_page.specs.declared.share.Sums.{Sums}
use Rattle.mls_page.proofs.Shares.{begun}
use Rattle.mls_page.proofs.counts.share_table.Goals as goal

pub returns : goal.returns
unfolding share_table table
returns c =
    let names = c.args.names.now in
    let rows = c.args.shares.now in
    let places = c.args.places.now in
    let front = c.begin_shares.new.page in
    c.in_ok-end_table.ensures ∙ ap (λ (d : Draft). lined (closed (closed d)))
    (c.in_ok-share_rows.ensures
    ∙ ap (λ (u : ℕ). added front (all_of (shown_at (share_row names c.sums_of-sums.result u) rows) places)) c.greatest_of-units.ensures
    ∙ ap (λ (s : Sums). added front (all_of (shown_at (share_row names s (greatest_of rows)) rows) places)) c.sums_of-sums.ensures
    ∙ ap (λ (d : Draft). added d (all_of (shown_at (share_row names (sums_of rows) (greatest_of rows)) rows) places))
    (c.in_ok-begin_shares.ensures ∙ ap (begun c.args.page.now) c.sums_of-sums.ensures))
