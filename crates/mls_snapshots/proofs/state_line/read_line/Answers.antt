use Rattle.std.proofs.Common.{subst, ap, ◌∙◌}
use Rattle.mls_labels.specs.Scheme.{IsScheme}
use Rattle.mls_snapshots.specs.LineReading.{said_in}
use Rattle.mls_snapshots.proofs.LineReads.{row_reads}
use Rattle.mls_snapshots.proofs.RowsSeen.{row_seen}
use Rattle.mls_snapshots.proofs.state_line.read_line.Goals as goal

pub returns : goal.returns
returns c =
    let names = c.args.names.now in
    let security = subst IsScheme c.security.ensures c.bounds.ensures.sound in
    let integrity = subst IsScheme c.integrity.ensures c.bounds-2.ensures.sound in
    let spelled = c.a_written_label_is_spelled.ensures in
    λ row has within is.
    c.said.ensures ∙ ap (said_in names) is
    ∙ row_reads names has spelled c.a_text_is_read_as_it_is_spelled.ensures.label security integrity row
    (row_seen names has spelled security integrity row within) within
