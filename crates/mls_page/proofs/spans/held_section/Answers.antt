use Rattle.std.proofs.Common.{◌∙◌, ap}
use Rattle.std.specs.Prelude.{map}
use Rattle.mls_listings.specs.Stamps.{rows_lent}
use Rattle.mls_markup.specs.Drafts.{Draft, added, closed, lined}
use Rattle.mls_page.specs.Held.{held, held_tables}
use Rattle.mls_page.specs.Sections.{listed}
use Rattle.mls_page.proofs.spans.held_section.Goals as goal

pub returns : goal.returns
unfolding held listed
returns c =
    let shown = held_tables c.args.names.now (rows_lent c.args.marks) c.args.entries (map (λ run. run.now) c.args.runs.now) c.args.places.now in
    c.in_ok-end_line.ensures ∙ ap (λ (d : Draft). lined (closed d))
    (c.in_ok-held_tables.ensures ∙ ap (λ (d : Draft). added d shown) c.in_ok-begin_listed.ensures)
