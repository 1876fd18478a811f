use Rattle.std.proofs.Common.{◌∙◌, ap, ℕ}
use Rattle.mls_markup.specs.Drafts.{Draft, added, closed, lined}
use Rattle.mls_markup.specs.Trees.{all_of}
use Rattle.mls_page.specs.Tables.{table}
use Rattle.mls_page.specs.Trusted.{most_of, trust_filled, trust_row}
use Rattle.mls_page.proofs.trusted.add_filled.Goals as goal

pub returns : goal.returns
unfolding trust_filled table
returns c =
    let names = c.args.names.now in
    let rows = c.args.rows.now in
    c.in_ok-end_table.ensures ∙ ap (λ (d : Draft). lined (closed (closed d)))
    (c.in_ok-add_rows.ensures
    ∙ ap (λ (u : ℕ). added c.begin_table.new.page (all_of (trust_row names u) rows)) c.most_of-units.ensures
    ∙ ap (λ (d : Draft). added d (all_of (trust_row names (most_of rows)) rows)) c.in_ok-begin_table.ensures)
