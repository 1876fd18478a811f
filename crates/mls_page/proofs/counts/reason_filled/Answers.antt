use Rattle.std.proofs.Common.{◌∙◌, ap, ℕ}
use Rattle.mls_markup.specs.Drafts.{Draft, added, closed, lined}
use Rattle.mls_markup.specs.Trees.{all_of}
use Rattle.mls_page.specs.Counts.{most_denied, reason_filled, reason_row}
use Rattle.mls_page.specs.Tables.{table}
use Rattle.mls_page.proofs.counts.reason_filled.Goals as goal

pub returns : goal.returns
unfolding reason_filled table
returns c =
    let rows = c.args.rows.now in
    c.in_ok-end_table.ensures ∙ ap (λ (d : Draft). lined (closed (closed d)))
    (c.in_ok-reason_rows.ensures
    ∙ ap (λ (u : ℕ). added c.begin_table.new.page (all_of (reason_row u) rows)) c.most_denied-units.ensures
    ∙ ap (λ (d : Draft). added d (all_of (reason_row (most_denied rows)) rows)) c.in_ok-begin_table.ensures)
